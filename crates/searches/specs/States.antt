-- A search of the code as a state, and what its calls answered.
use Rattle.std.specs.Prelude.{◌≡◌, List, Some, None, Ok, Err, Option, Result}
use Rattle.algebra.specs.Ends.{Ends}
use Rattle.grains.specs.Arithmetic.{ends_of}
use Rattle.grains.specs.declared.interval.Interval.{Interval}
use Rattle.systems.specs.Tables.{Table}
use Rattle.enclosures.specs.Verdicts.{Verdict}
use Rattle.partition.specs.Choosing.{Choice}
use Rattle.outcomes.specs.declared.reading.Reading.{Reading}
use Rattle.outcomes.specs.declared.reading.Report.{Report}
use Rattle.outcomes.specs.declared.refusal.SearchRefusal.{SearchRefusal}
use Rattle.outcomes.specs.declared.refusal.SearchRefusal.TheVariants.{NotStarted}
use Rattle.outcomes.specs.declared.record.Record.{Record}
use Rattle.searches.specs.declared.search.Halves.{Halves}
use Rattle.searches.specs.declared.search.Progress.{Progress}
use Rattle.searches.specs.declared.search.Search.{Search}
use Rattle.outcomes.specs.Searching.{Started, State, replaced, split_of, Answer, refused, reading, report}

abbrev pub started_from : Progress → List Record → Started
started_from p ws = record { component = p.component; high = p.high; splits = p.splits; waiting = ws }

abbrev pub state_from : Option Progress → List Record → State
state_from None ws = None
state_from (Some p) ws = Some (started_from p ws)

-- an interval that is answered, by its ends
abbrev pub ends_in : {E : Type 0} → Result Interval E → Result Ends E
ends_in (Ok x) = Ok (ends_of x)
ends_in (Err e) = Err e

-- two halves that are answered take the place of the leading record
abbrev pub replaced_by : Started → Result Halves SearchRefusal → Result Started SearchRefusal
replaced_by s (Ok h) = Ok (replaced s h.low h.high)
replaced_by s (Err e) = Err e

-- one split, if the search is started
abbrev pub tried : (Table → Verdict) → Choice → Table → State → Result Started SearchRefusal
tried v r t None = Err NotStarted
tried v r t (Some s) = split_of v r t s

abbrev pub answer_of : Result Reading SearchRefusal → Answer
answer_of (Ok x) = reading x
answer_of (Err e) = refused e

abbrev pub reported_by : Result Report SearchRefusal → Answer
reported_by (Ok x) = report x
reported_by (Err e) = refused e

module _ {M R : Type 0} where
  abbrev pub state_of : Search M R → State
  state_of s = state_from s.progress s.waiting

  -- a call that answered r and left the search was as is did what o says: at a state it is in that state, at a refusal it is as it was
  abbrev pub Advanced : Result Progress SearchRefusal → Search M R → Search M R → Result Started SearchRefusal → Type 0
  Advanced (Ok p) was is o = (o ≡ Ok (started_from p is.waiting)) × (is.progress ≡ Some p)
  Advanced (Err e) was is o = (o ≡ Err e) × (is ≡ was)

  -- what no call changes
  pub record SameParts (was is : Search M R) : Type 0 where
    pub system : is.system ≡ was.system
    pub method : is.method ≡ was.method
    pub rule : is.rule ≡ was.rule
