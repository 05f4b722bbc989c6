-- The laws of boxes.
use Rattle.std.specs.Prelude.{◌≡◌, ℕ, ◌+◌, ◌^◌, ◌<◌, Bool, true, false, cond, count_ones}
use Rattle.systems.specs.Boxes.{Marks, bit, box_of}
use Rattle.systems.specs.Points.{Proper}
use Rattle.systems.specs.Entries.{thin}
use Rattle.systems.specs.Tables.{Table, Narrower, places_of, ends_at, wide_entries}
use Rattle.partition.specs.Choosing.{wide_at}

-- marks stand at wide entries only, and none beyond the last place
pub record MarksFit (m : Marks) (t : Table) : Type 0 where
  pub at_wide : (k : ℕ) → bit m.fixed k ≡ true → wide_at t k ≡ true
  pub within : m.fixed < 2 ^ places_of t.size

-- a box is narrower than its system
abbrev pub BoxNarrower : Type 0
BoxNarrower = (t : Table) (m : Marks) → Proper t → Narrower (box_of m t) t

-- a box has as many wide entries less than its system as there are marks
abbrev pub BoxCounts : Type 0
BoxCounts = (t : Table) (m : Marks) → Proper t → MarksFit m t → wide_entries (box_of m t) + count_ones m.fixed ≡ wide_entries t

-- marks with one more place fixed, at its high or its low end
abbrev pub marked : Marks → ℕ → Bool → Marks
marked m k high = record { fixed = m.fixed + 2 ^ k; ends = m.ends + cond high (2 ^ k) 0 }

-- place k may be fixed: it is there, its entry is wide, and neither number has its bit yet
pub record Free (m : Marks) (t : Table) (k : ℕ) : Type 0 where
  pub there : k < places_of t.size
  pub wide : wide_at t k ≡ true
  pub unfixed : bit m.fixed k ≡ false
  pub no_end : bit m.ends k ≡ false

-- fixing one more wide entry: the marks fit still, the box is narrower than the one before, has one wide entry less, and the entry is thin at that end
pub record FixedOnce (m : Marks) (t : Table) (k : ℕ) (high : Bool) : Type 0 where
  pub fits : MarksFit (marked m k high) t
  pub narrower : Narrower (box_of (marked m k high) t) (box_of m t)
  pub fewer : wide_entries (box_of (marked m k high) t) + 1 ≡ wide_entries (box_of m t)
  pub end : ends_at (box_of (marked m k high) t) k ≡ thin (cond high (ends_at t k).high (ends_at t k).low)

abbrev pub FixingNarrows : Type 0
FixingNarrows = (t : Table) (m : Marks) (k : ℕ) (high : Bool) → Proper t → MarksFit m t → Free m t k → FixedOnce m t k high

-- no place fixed
abbrev pub unmarked : Marks
unmarked = record { fixed = 0; ends = 0 }
