-- One search for one component, started and run, and its low figure.
use Rattle.std.specs.Prelude.{◌≡◌, ℕ, ◌-◌, List, ℤ, None, Ok, Err, Result}
use Rattle.algebra.specs.Chaining.{and_then}
use Rattle.systems.specs.Points.{PointIn, SolutionOf, AtMost}
use Rattle.systems.specs.Tables.{Table}
use Rattle.enclosures.specs.Verdicts.{Verdict}
use Rattle.partition.specs.Choosing.{Choice}
use Rattle.searches.specs.declared.lowest.NoFigure.{NoFigure}
use Rattle.searches.specs.declared.lowest.NoFigure.TheVariants.{Memory, Refused}
use Rattle.outcomes.specs.declared.refusal.SearchRefusal.{SearchRefusal}
use Rattle.outcomes.specs.declared.reading.Report.{Report}
use Rattle.outcomes.specs.Searching.{report_of, start_of, run_of}

-- start with component c, counted from 1, and run with budget b
unfoldable pub solved_of : (Table → Verdict) → Choice → Table → ℕ → ℕ → Result Report SearchRefusal
solved_of v r t c b = and_then (start_of v t c None) (λ s. Ok (report_of t (run_of v r t b s)))

-- the low figure of that
unfoldable pub lowest_of : (Table → Verdict) → Choice → Table → ℕ → ℕ → Result ℤ SearchRefusal
lowest_of v r t c b = and_then (solved_of v r t c b) (λ x. Ok x.reading.low)

-- a call that answered r did what o says, unless it wanted memory
abbrev pub Answers : {A : Type 0} → Result A NoFigure → Result A SearchRefusal → Type 0
Answers (Ok x) o = o ≡ Ok x
Answers (Err Memory) o = Unit {0}
Answers (Err (Refused e)) o = o ≡ Err e

-- a figure is at most component c, counted from 1, of every rational solution of every point system inside a system
abbrev pub NeverBelow : Table → ℕ → ℤ → Type 0
NeverBelow t c low = (P : PointIn t) (d : ℕ) (p : List ℤ) → SolutionOf t P d p → AtMost low d p (c - 1)

-- what is answered has such a figure
abbrev pub Holds : {A : Type 0} → (A → ℤ) → Result A NoFigure → Table → ℕ → Type 0
Holds figure (Ok x) t c = NeverBelow t c (figure x)
Holds figure (Err e) t c = Unit {0}

abbrev pub low_in : Report → ℤ
low_in x = x.reading.low

abbrev pub itself : ℤ → ℤ
itself low = low
