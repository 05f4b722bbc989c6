-- The list of waiting records, in the order in which they were made.
use Rattle.std.specs.Prelude.{ℕ, zero, suc, Bool, cond, List, length, ℤ, pos, filter, int_le, int_lt, slice_index_or}
use Rattle.outcomes.specs.declared.record.Record.{Record}

-- what is read past the end of a list
abbrev pub nothing : Record
nothing = record { low = pos 0; marks = record { fixed = 0; ends = 0 } }

abbrev pub record_at : List Record → ℕ → Record
record_at ws k = slice_index_or ws k nothing

-- the place of the least low figure among the first m records, the first among equals
abbrev pub leading_below : List Record → ℕ → ℕ
leading_below ws zero = 0
leading_below ws (suc m) = cond (int_lt (record_at ws m).low (record_at ws (leading_below ws m)).low) m (leading_below ws m)

unfoldable pub leading_at : List Record → ℕ
leading_at ws = leading_below ws (length ws)

-- the leading record: the least low figure of all, the earliest made among equals
abbrev pub leading : List Record → Record
leading ws = record_at ws (leading_at ws)

abbrev pub not_above : ℤ → Record → Bool
not_above high w = int_le w.low high

-- the records whose low figure is not above the high figure
unfoldable pub kept_below : ℤ → List Record → List Record
kept_below high ws = filter (not_above high) ws
