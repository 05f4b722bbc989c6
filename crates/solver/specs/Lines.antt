-- The lines of `lowline`, as text.
use Rattle.std.specs.Prelude.{◌≡◌, ℕ, List, Ok, Err, decimal, Result}
use Rattle.std.specs.Fmt.{signed_decimal}
use Rattle.outcomes.specs.declared.reading.Report.{Report}
use Rattle.outcomes.specs.declared.refusal.SearchRefusal.{SearchRefusal}
use Rattle.outcomes.specs.Texts.{spaced, stop_word, refusal_text}
use Rattle.searches.specs.declared.lowest.NoFigure.{NoFigure}
use Rattle.searches.specs.declared.lowest.NoFigure.TheVariants as no
use Rattle.systems.specs.Tables.{Table}
use Rattle.solver.specs.declared.line.Line.{Line}
use Rattle.solver.specs.Solving.{found_for}

-- what is said of an answer
abbrev pub Finds : Result Report NoFigure → Result Report SearchRefusal → Type 0
Finds (Ok x) o = o ≡ Ok x
Finds (Err no.Memory) o = ⊥
Finds (Err (no.Refused e)) o = o ≡ Err e

-- component c of a system with a budget of 100
unfoldable pub line_of : Table → ℕ → Line
line_of t c = record { component = c; outcome = found_for t c 100 }

-- the low figure, the high figure, how many wait, the splits and the stop; or `refused` and the number
abbrev pub outcome_text : Result Report SearchRefusal → List ℕ
outcome_text (Ok x) = spaced (signed_decimal x.reading.low) (spaced (signed_decimal x.reading.high) (spaced (decimal x.reading.waiting) (spaced (decimal x.reading.splits) (stop_word x.stop))))
outcome_text (Err e) = refusal_text e

abbrev pub text_of : Line → List ℕ
text_of l = spaced (decimal l.component) (outcome_text l.outcome)
