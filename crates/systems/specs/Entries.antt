-- Entries by their two ends, whole numbers from -65536 to 65536.
use Rattle.std.specs.Prelude.{Bool, cond, ◌&&◌, ℤ, pos, ◌+ℤ◌, neg_ℤ, Ok, Err, Result, int_le, int_lt}
use Rattle.algebra.specs.Ends.{Ends, from_to}
use Rattle.algebra.specs.Order.{floor_div}
use Rattle.systems.specs.declared.entry.Entry.{Entry}
use Rattle.systems.specs.declared.refusal.Refusal.{Refusal}
use Rattle.systems.specs.declared.refusal.Refusal.TheVariants.{EndOutOfRange, EndsOutOfOrder}

abbrev pub ends_of : Entry → Ends
ends_of e = from_to e.low e.high

-- what an answer says of the ends
abbrev pub entry_answer : Result Entry Refusal → Result Ends Refusal
entry_answer (Ok e) = Ok (ends_of e)
entry_answer (Err r) = Err r

abbrev pub in_range : ℤ → Bool
in_range a = int_le (neg_ℤ (pos 65536)) a && int_le a (pos 65536)

-- the entry from a to b: first the range of both ends is looked at, then their order
unfoldable pub entry_of : ℤ → ℤ → Result Ends Refusal
entry_of a b = cond (in_range a && in_range b) (cond (int_le a b) (Ok (from_to a b)) (Err EndsOutOfOrder)) (Err EndOutOfRange)

-- wide: the ends differ; otherwise the entry is thin
unfoldable pub is_wide : Ends → Bool
is_wide e = int_lt e.low e.high

abbrev pub thin : ℤ → Ends
thin a = from_to a a

-- thin at half the sum of the ends, rounded down
unfoldable pub middle : Ends → Ends
middle e = thin (floor_div (e.low +ℤ e.high) 2)
