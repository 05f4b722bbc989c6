-- Marks as the code holds them.
use Rattle.std.specs.Prelude.{ℕ, Bool, true, false, cond, not, ◌&&◌, nat_lt}
use Rattle.systems.specs.Boxes.{Marks, bit}
use Rattle.partition.specs.declared.marks.End.{End}
use Rattle.partition.specs.declared.marks.End.TheVariants.{Low, High}
use Rattle.partition.specs.declared.marks.Marks as held
use Rattle.partition.specs.Boxing.{marked}

abbrev pub marks_of : held.Marks → Marks
marks_of m = record { fixed = m.fixed; ends = m.ends }

abbrev pub is_high : End → Bool
is_high Low = false
is_high High = true

-- a place is one of the 64 and has no bit in either number
unfoldable pub open_at : Marks → ℕ → Bool
open_at m k = nat_lt k 64 && (not (bit m.fixed k) && not (bit m.ends k))

-- one more place fixed, if it is open
abbrev pub fixed_at : Marks → ℕ → End → Marks
fixed_at m k e = cond (open_at m k) (marked m k (is_high e)) m
