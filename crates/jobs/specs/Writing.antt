-- The job of a table, and what a writer of jobs does with a buffer.
use Rattle.std.specs.Prelude.{◌≡◌, ℕ, suc, ◌+◌, ◌-◌, ◌/◌, ◌%◌, Bool, cond, ◌&&◌, List, [], ◌∷◌, ◌++◌, length, take, drop, ℤ, pos, negsuc, Ok, Err, Result, nat_le}
use Rattle.algebra.specs.Ends.{Ends}
use Rattle.systems.specs.Tables.{Table}
use Rattle.systems.specs.declared.refusal.Refusal.{Refusal}
use Rattle.systems.specs.declared.refusal.Refusal.TheVariants.{BufferTooShort}
use Rattle.jobs.specs.Reading.{is_zero, parsed}

-- a number as 32 bits in two's complement: `negsuc n` is -(n + 1)
abbrev pub bits_of : ℤ → ℕ
bits_of (pos n) = n
bits_of (negsuc n) = 4294967296 - suc n

-- those bits as four bytes, the highest first
unfoldable pub four_bytes : ℤ → List ℕ
four_bytes z = (bits_of z / 16777216 % 256) ∷ (bits_of z / 65536 % 256) ∷ (bits_of z / 256 % 256) ∷ (bits_of z % 256) ∷ []

-- whether a job leaves an entry out: [0, 0] has no record
unfoldable pub left_out : Ends → Bool
left_out e = is_zero e.low && is_zero e.high

-- a record: EN, the place, and the low and the high end
abbrev pub full_record : ℕ → Ends → List ℕ
full_record p e = 69 ∷ 78 ∷ p ∷ (four_bytes e.low ++ four_bytes e.high)

-- the record of the entry at place p, if it has one
unfoldable pub record_of : ℕ → Ends → List ℕ
record_of p e = cond (left_out e) [] (full_record p e)

-- the records of entries that stand from place p on
unfoldable pub records_from : ℕ → List Ends → List ℕ
records_from p [] = []
records_from p (e ∷ es) = record_of p e ++ records_from (p + 1) es

-- the job of a table: SZ and the size, the records of the entries, ZZ
unfoldable pub written : Table → List ℕ
written t = 83 ∷ 90 ∷ t.size ∷ (records_from 0 t.entries ++ 90 ∷ 90 ∷ [])

-- a call that answered r, with the buffer at was before it and at is after it, wrote these bytes:
-- where there is room they stand in front, the later bytes are as they were, and their number is answered; else the buffer is as it was
pub record Writes (r : Result ℕ Refusal) (was is bytes : List ℕ) : Type 0 where
  pub answer : r ≡ cond (nat_le (length bytes) (length was)) (Ok (length bytes)) (Err BufferTooShort)
  pub buffer : is ≡ cond (nat_le (length bytes) (length was)) (bytes ++ drop (length bytes) was) was

-- the job of a table is read as that table
abbrev pub ReadsBack : Table → Type 0
ReadsBack t = parsed (written t) ≡ Ok t

-- a job that is read is the job of the table that was read from it
abbrev pub WrittenAgain : Result (Unit {0}) Refusal → List ℕ → Table → Type 0
WrittenAgain (Ok u) job t = job ≡ written t
WrittenAgain (Err e) job t = Unit {0}

-- a list with the bytes written over it from a position on
unfoldable pub overwritten : List ℕ → ℕ → List ℕ → List ℕ
overwritten was at bytes = take at was ++ (bytes ++ drop (at + length bytes) was)
