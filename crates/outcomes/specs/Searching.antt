-- What each call of a search answers, and what it leaves.
use Rattle.std.specs.Prelude.{ℕ, zero, suc, ◌+◌, ◌-◌, min, Bool, cond, ◌&&◌, List, [], ◌∷◌, ◌++◌, length, ℤ, Some, None, Ok, Err, Option, Result, ◌==◌, nat_le}
use Rattle.std.specs.Int.{int_min}
use Rattle.std.specs.List.{remove}
use Rattle.algebra.specs.Chaining.{and_then}
use Rattle.algebra.specs.Ends.{Ends}
use Rattle.systems.specs.Boxes.{box_of}
use Rattle.systems.specs.Tables.{Table, wide_entries, midpoint_of}
use Rattle.enclosures.specs.Methods.{component_of}
use Rattle.enclosures.specs.Verdicts.{Verdict}
use Rattle.partition.specs.declared.marks.End.{End}
use Rattle.partition.specs.declared.marks.End.TheVariants.{Low, High}
use Rattle.partition.specs.declared.marks.Marks.{Marks}
use Rattle.partition.specs.Choosing.{Choice}
use Rattle.partition.specs.Marking.{marks_of, fixed_at}
use Rattle.outcomes.specs.declared.reading.Reading.{Reading}
use Rattle.outcomes.specs.declared.reading.Report.{Report}
use Rattle.outcomes.specs.declared.refusal.SearchRefusal.{SearchRefusal}
use Rattle.outcomes.specs.declared.refusal.SearchRefusal.TheVariants as refusal
use Rattle.outcomes.specs.declared.reading.Stop.{Stop}
use Rattle.outcomes.specs.declared.reading.Stop.TheVariants as stop
use Rattle.outcomes.specs.declared.record.Record.{Record}
use Rattle.outcomes.specs.declared.record.Entered.{Entered}
use Rattle.outcomes.specs.Waiting.{leading_at, leading, kept_below}

-- a search that is started: its component, counted from 0, its high figure, how many splits were made, and the waiting records as they were made
pub record Started : Type 0 where
  pub component : ℕ
  pub high : ℤ
  pub splits : ℕ
  pub waiting : List Record

-- None: not started
abbrev pub State : Type 0
State = Option Started

-- no place fixed; and one more place fixed at an end
abbrev pub unfixed : Marks
unfixed = record { fixed = 0; ends = 0 }

abbrev pub fixing : Marks → ℕ → End → Marks
fixing m k e = let n = fixed_at (marks_of m) k e in record { fixed = n.fixed; ends = n.ends }

-- component c of a method's row
abbrev pub figures_of : ℕ → Verdict → Result Ends SearchRefusal
figures_of c (Ok row) = Ok (component_of row c)
figures_of c (Err fault) = Err (refusal.ByMethod fault)

-- a place of a rule; it answers none where there is nothing to split
abbrev pub place_in : Option ℕ → Result ℕ SearchRefusal
place_in (Some k) = Ok k
place_in None = Err refusal.Settled

-- one split more, as far as a `u64` counts: promised is that no search comes near that
abbrev pub one_more : ℕ → ℕ
one_more n = min (n + 1) 18446744073709551615

-- ---- the calls, over a system t, the meaning v of a method and the answer r of a rule
abbrev pub box : Table → Marks → Table
box t m = box_of (marks_of m) t

unfoldable pub settled : Table → Started → Bool
settled t s = wide_entries (box t (leading s.waiting).marks) == 0

unfoldable pub full : Started → Bool
full s = nat_le 512 (length s.waiting)

unfoldable pub reading_of : Table → Started → Reading
reading_of t s = record { low = (leading s.waiting).low; high = s.high; waiting = length s.waiting; splits = s.splits; settled = settled t s }

-- the record of a box, with the low figure of component c there and, beside it, the high figure of the box's midpoint system
unfoldable pub entered : (Table → Verdict) → Table → ℕ → Marks → Result Entered SearchRefusal
entered v t c m =
    and_then (figures_of c (v (box t m))) (λ e.
    and_then (figures_of c (v (midpoint_of (box t m)))) (λ h.
    Ok (record { waiting = record { low = e.low; marks = m }; high = h.high })))

-- start with component c, counted from 1
unfoldable pub start_of : (Table → Verdict) → Table → ℕ → State → Result Started SearchRefusal
start_of v t c (Some s) = Err refusal.AlreadyStarted
start_of v t c None = cond (nat_le 1 c && nat_le c t.size)
    (and_then (entered v t (c - 1) unfixed) (λ w. Ok (record { component = c - 1; high = w.high; splits = 0; waiting = w.waiting ∷ [] })))
    (Err refusal.ComponentOutOfRange)

-- two records in the place of the leading one: the high figure becomes the least of the three, and the records above it are dropped
unfoldable pub replaced : Started → Entered → Entered → Started
replaced s a b =
    let least = int_min (int_min s.high a.high) b.high in
    record { component = s.component; high = least; splits = one_more s.splits; waiting = kept_below least (remove s.waiting (leading_at s.waiting) ++ a.waiting ∷ b.waiting ∷ []) }

-- the search with place k of the leading box fixed, at its low end and then at its high end
unfoldable pub opened_at : (Table → Verdict) → Table → Started → ℕ → Result Started SearchRefusal
opened_at v t s k =
    let m = (leading s.waiting).marks in
    and_then (entered v t s.component (fixing m k Low)) (λ a.
    and_then (entered v t s.component (fixing m k High)) (λ b.
    Ok (replaced s a b)))

-- the place that a rule answers for a box and the method's row there
abbrev pub place_by : Choice → Table → Verdict → Result ℕ SearchRefusal
place_by r b (Ok row) = place_in (r b row)
place_by r b (Err fault) = Err (refusal.ByMethod fault)

unfoldable pub place_of : (Table → Verdict) → Choice → Table → Started → Result ℕ SearchRefusal
place_of v r t s = let b = box t (leading s.waiting).marks in place_by r b (v b)

unfoldable pub split_of : (Table → Verdict) → Choice → Table → Started → Result Started SearchRefusal
split_of v r t s = cond (settled t s) (Err refusal.Settled) (cond (full s) (Err refusal.Full) (and_then (place_of v r t s) (opened_at v t s)))

-- one split made before the rest of a run
abbrev pub after : ℕ × Started → ℕ × Started
after (made, end) = (suc made, end)

-- a run: the splits made, and where it ends. It ends at a split that is refused
unfoldable pub run_of : (Table → Verdict) → Choice → Table → ℕ → Started → ℕ × Started
run_of v r t zero s = (0, s)
run_of v r t (suc budget) s = by_split (run_of v r t budget) (split_of v r t s)
  where
    by_split : (Started → ℕ × Started) → Result Started SearchRefusal → ℕ × Started
    by_split rest (Ok next) = after (rest next)
    by_split rest (Err e) = (0, s)

unfoldable pub stop_of : Table → Started → Stop
stop_of t s = cond (settled t s) stop.Settled (cond (full s) stop.Full stop.Budget)

abbrev pub report_of : Table → ℕ × Started → Report
report_of t (made, end) = record { reading = reading_of t end; made = made; stop = stop_of t end }

-- ---- calls and answers
pub data Call : Type 0 where
  start : ℕ → Call
  split : Call
  run : ℕ → Call
  read : Call

pub data Answer : Type 0 where
  refused : SearchRefusal → Answer
  reading : Reading → Answer
  report : Report → Answer

-- what a call answers and leaves that comes to a state or is refused
abbrev pub left : Table → State → Result Started SearchRefusal → Answer × State
left t s (Ok next) = (reading (reading_of t next), Some next)
left t s (Err e) = (refused e, s)

abbrev pub ran_to : Table → ℕ × Started → Answer × State
ran_to t (made, end) = (report (report_of t (made, end)), Some end)

-- what a call answers, and the state after it
abbrev pub step : (Table → Verdict) → Choice → Table → Call → State → Answer × State
step v r t (start c) s = left t s (start_of v t c s)
step v r t split None = (refused refusal.NotStarted, None)
step v r t split (Some s) = left t (Some s) (split_of v r t s)
step v r t (run b) None = (refused refusal.NotStarted, None)
step v r t (run b) (Some s) = ran_to t (run_of v r t b s)
step v r t read None = (refused refusal.NotStarted, None)
step v r t read (Some s) = (reading (reading_of t s), Some s)
