-- What a search keeps, whatever was called before: a law over lists of calls with their answers.
use Rattle.std.specs.Prelude.{◌≡◌, ℕ, ◌+◌, ◌^◌, ◌<◌, ◌≤◌, true, List, [], ◌∷◌, ◌++◌, ℤ, ◌≤ℤ◌, Some, None, Ok, Err, Option, Result}
use Rattle.algebra.specs.Ends.{Ends}
use Rattle.systems.specs.Points.{Proper, PointIn, SolutionOf, AtMost, AtLeast}
use Rattle.systems.specs.Tables.{Table, Corner, wide_entries}
use Rattle.enclosures.specs.Methods.{component_of, Solvable, Agreed, Enclosed, Narrowing}
use Rattle.enclosures.specs.Verdicts.{Verdict}
use Rattle.partition.specs.Choosing.{Choice, PlaceWhenSome}
use Rattle.outcomes.specs.declared.reading.Reading.{Reading}
use Rattle.outcomes.specs.declared.refusal.SearchRefusal.{SearchRefusal}
use Rattle.outcomes.specs.declared.refusal.SearchRefusal.TheVariants as refusal
use Rattle.outcomes.specs.declared.reading.Stop.TheVariants as stop
use Rattle.outcomes.specs.Searching.{Started, State, reading_of, Call, start, split, run, read, Answer, refused, reading, report, step}

-- calls with their answers, the latest first
abbrev pub History : Type 0
History = List (Call × Answer)

-- how many splits a call made, by its answer: a split call that was carried out made one, and a run says how many
abbrev pub made_by : Call → Answer → ℕ
made_by (start c) a = 0
made_by split (refused e) = 0
made_by split (reading x) = 1
made_by split (report x) = 0
made_by (run b) (refused e) = 0
made_by (run b) (reading x) = 0
made_by (run b) (report x) = x.made
made_by read a = 0

abbrev pub splits_in : History → ℕ
splits_in [] = 0
splits_in ((c, a) ∷ h) = made_by c a + splits_in h

-- the component of the start that was carried out, counted from 1
abbrev pub chosen_by : Call → Answer → Option ℕ → Option ℕ
chosen_by (start c) (refused e) before = before
chosen_by (start c) (reading x) before = Some c
chosen_by (start c) (report x) before = before
chosen_by split a before = before
chosen_by (run b) a before = before
chosen_by read a before = before

abbrev pub chosen_in : History → Option ℕ
chosen_in [] = None
chosen_in ((c, a) ∷ h) = chosen_by c a (chosen_in h)

-- an answer that says full: a split's refusal or a run's stop
abbrev pub SaysFull : Answer → Type 0
SaysFull (refused e) = e ≡ refusal.Full
SaysFull (reading x) = ⊥
SaysFull (report x) = x.stop ≡ stop.Full

abbrev pub NeverFull : History → Type 0
NeverFull [] = Unit {0}
NeverFull ((c, a) ∷ h) = (SaysFull a → ⊥) × NeverFull h

module _ (v : Table → Verdict) (r : Choice) (t : Table) where
  -- these calls, carried out or refused, with these answers lead from a search that was just made to this state
  abbrev pub Reached : History → State → Type 0
  Reached [] s = s ≡ None
  Reached ((c, a) ∷ h) s = (was : State) × Reached h was × (step v r t c was ≡ (a, s))

  -- after these calls a reading answers x
  abbrev pub Reads : History → Reading → Type 0
  Reads h x = (s : State) × Reached h s × (step v r t read s ≡ (reading x, s))

  -- what holds of a reading x after the calls h
  pub record Kept (h : History) (x : Reading) : Type 0 where
    -- the component, counted from 0, of the start that was carried out
    pub component : ℕ
    pub chosen : chosen_in h ≡ Some (component + 1)
    -- the low figure is at most that component of every rational solution of every point system inside,
    pub low_holds : (P : PointIn t) (d : ℕ) (p : List ℤ) → SolutionOf t P d p → AtMost x.low d p component
    -- and the high figure is at least that component of one of them
    pub high_is_met : (P : PointIn t) × (d : ℕ) × (p : List ℤ) × SolutionOf t P d p × AtLeast x.high d p component
    -- at no earlier point since the start was the low figure higher, or the high figure lower
    pub low_never_fell : (later earlier : History) (y : Reading) → h ≡ later ++ earlier → Reads earlier y → y.low ≤ℤ x.low
    pub high_never_rose : (later earlier : History) (y : Reading) → h ≡ later ++ earlier → Reads earlier y → x.high ≤ℤ y.high
    -- the split count is the number of split calls carried out and the splits that runs answered as made,
    pub counted : x.splits ≡ splits_in h
    -- and is at most 2 ^ w - 1 with w wide entries
    pub bounded : x.splits < 2 ^ wide_entries t
    -- with at most 9 of them no split or run has answered full
    pub never_full : wide_entries t ≤ 9 → NeverFull h
    -- settled: for one corner of the system the method gives that component an interval from the low figure to one not below the high figure
    pub settled_at_a_corner : x.settled ≡ true
        → (u : Table) × (row : List Ends) × Corner u t × (v u ≡ Ok row) × ((component_of row component).low ≡ x.low) × (x.high ≤ℤ (component_of row component).high)

  -- a reading that is answered keeps it, after all calls that reach the search
  abbrev pub Promised : Result Reading SearchRefusal → State → Type 0
  Promised (Ok x) s = (h : History) → Reached h s → Kept h x
  Promised (Err e) s = Unit {0}

-- every reading after every list of calls keeps it, over every method and every rule with the laws of their traits
abbrev pub EveryHistoryKept : Type 0
EveryHistoryKept = (v : Table → Verdict) (r : Choice) (t : Table) → Proper t → Solvable v → Agreed v → Enclosed v → Narrowing v → PlaceWhenSome r
    → (s : Started) (h : History) → Reached v r t h (Some s) → Kept v r t h (reading_of t s)
