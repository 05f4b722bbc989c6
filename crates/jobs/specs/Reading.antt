-- What a list of bytes means as a job.
use Rattle.std.specs.Prelude.{ℕ, zero, suc, ◌+◌, ◌*◌, Bool, true, cond, ◌&&◌, List, [], ◌∷◌, length, drop, ℤ, pos, ◌-ℤ◌, Some, None, Ok, Err, Option, Result, ◌==◌, int_le, nat_le, nat_lt, slice_index}
use Rattle.algebra.specs.Chaining.{and_then}
use Rattle.jobs.specs.declared.reader.Record.{Record}
use Rattle.jobs.specs.declared.reader.Record.TheVariants.{Size, Entry, End}
use Rattle.jobs.specs.declared.reader.Stage.{Stage}
use Rattle.jobs.specs.declared.reader.Stage.TheVariants.{First, Entries, Ended}
use Rattle.systems.specs.Tables.{Table, places_of, sized, placed}
use Rattle.systems.specs.declared.refusal.Refusal.{Refusal}
use Rattle.systems.specs.declared.refusal.Refusal.TheVariants.{PlaceOutOfRange, JobEndsEarly, MarkNotAllowed, PlaceNotRising, EntryIsZero, BytesAfterEnd}

-- the byte at a position, 0 past the end
unfoldable pub byte_at : List ℕ → ℕ → ℕ
byte_at bytes i = slice_index bytes i

-- 32 bits in two's complement
abbrev pub twos_complement : ℕ → ℤ
twos_complement n = cond (nat_lt n 2147483648) (pos n) (pos n -ℤ pos 4294967296)

-- the number in the four bytes from position i on, the highest first
unfoldable pub number_at : List ℕ → ℕ → ℤ
number_at bytes i = twos_complement (byte_at bytes i * 16777216 + byte_at bytes (i + 1) * 65536 + byte_at bytes (i + 2) * 256 + byte_at bytes (i + 3))

-- whether the bytes open with the mark of the two letters
unfoldable pub marked : ℕ → ℕ → List ℕ → Bool
marked a b bytes = byte_at bytes 0 == a && byte_at bytes 1 == b

-- whether a place is above the place before it
unfoldable pub rising : Option ℕ → ℕ → Bool
rising None p = true
rising (Some q) p = nat_lt q p

-- which record stands at the front of the bytes: before the first record only SZ may stand, later EN or ZZ
unfoldable pub record_at : Stage → ℕ → Option ℕ → List ℕ → Result Record Refusal
record_at stage places before bytes =
    cond (nat_lt (length bytes) 2) (Err JobEndsEarly) (elim stage [
      | First ↦ cond (marked 83 90 bytes) (cond (nat_lt (length bytes) 3) (Err JobEndsEarly) (Ok Size)) (Err MarkNotAllowed)
      | Entries ↦ cond (marked 69 78 bytes) (
          cond (nat_lt (length bytes) 11) (Err JobEndsEarly) (
          cond (nat_le places (byte_at bytes 2)) (Err PlaceOutOfRange) (
          cond (rising before (byte_at bytes 2)) (Ok Entry) (Err PlaceNotRising))))
          (cond (marked 90 90 bytes) (cond (nat_lt 2 (length bytes)) (Err BytesAfterEnd) (Ok End)) (Err MarkNotAllowed))
      | Ended ↦ Err MarkNotAllowed
    ])

abbrev pub is_zero : ℤ → Bool
is_zero z = int_le z (pos 0) && int_le (pos 0) z

-- the table with the entry from a to b at a place; an entry [0, 0] is refused last
unfoldable pub entered : Table → ℕ → ℤ → ℤ → Result Table Refusal
entered t p a b = and_then (placed p a b t) (λ u. cond (is_zero a && is_zero b) (Err EntryIsZero) (Ok u))

-- the records after the first. `skip` bytes belong to a record that was read already
unfoldable pub records : Table → Option ℕ → ℕ → List ℕ → Result Table Refusal
records t before skip [] = Err JobEndsEarly
records t before (suc skip) (b ∷ bytes) = records t before skip bytes
records t before zero (b ∷ bytes) = and_then (record_at Entries (places_of t.size) before (b ∷ bytes)) (λ r. elim r [
  | Size ↦ Err MarkNotAllowed
  | Entry ↦ and_then (entered t (byte_at (b ∷ bytes) 2) (number_at (b ∷ bytes) 3) (number_at (b ∷ bytes) 7)) (λ u. records u (Some (byte_at (b ∷ bytes) 2)) 10 bytes)
  | End ↦ Ok t
])

-- the system that a job holds, or why it is refused
unfoldable pub parsed : List ℕ → Result Table Refusal
parsed bytes = and_then (record_at First 0 None bytes) (λ r. and_then (sized (byte_at bytes 2)) (λ t. records t None 0 (drop 3 bytes)))
