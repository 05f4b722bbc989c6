-- The host's call, on bytes.
use Rattle.std.specs.Prelude.{◌≡◌, ℕ, suc, ◌-◌, ◌/◌, ◌%◌, cond, ◌⊎◌, List, [], ◌∷◌, ◌++◌, take, drop, ℤ, pos, negsuc, Ok, Err, Result, nat_le}
use Rattle.algebra.specs.Chaining.{and_then}
use Rattle.systems.specs.declared.refusal.Refusal.{Refusal}
use Rattle.systems.specs.Refusals.{number_of}
use Rattle.systems.specs.Tables.{Table}
use Rattle.jobs.specs.Reading.{parsed}
use Rattle.outcomes.specs.declared.reading.Report.{Report}
use Rattle.outcomes.specs.declared.refusal.SearchRefusal.{SearchRefusal}
use Rattle.outcomes.specs.Refusals.{number_of as search_number, stop_number}
use Rattle.searches.specs.declared.lowest.NoFigure.{NoFigure}
use Rattle.searches.specs.declared.lowest.NoFigure.TheVariants as no
use Rattle.searches.specs.Lowest.{NeverBelow}
use Rattle.solver.specs.Solving.{found_for}
use Rattle.hostcall.specs.declared.answer.CallRefusal.{CallRefusal}
use Rattle.hostcall.specs.declared.answer.CallRefusal.TheVariants as call

-- a figure as 64 bits in two's complement: `negsuc n` is -(n + 1)
abbrev pub bits64 : ℤ → ℕ
bits64 (pos n) = n
bits64 (negsuc n) = 18446744073709551616 - suc n

-- 64 bits as eight bytes, the highest first
unfoldable pub eight_bytes : ℕ → List ℕ
eight_bytes n = (n / 72057594037927936 % 256) ∷ (n / 281474976710656 % 256) ∷ (n / 1099511627776 % 256) ∷ (n / 4294967296 % 256) ∷ (n / 16777216 % 256) ∷ (n / 65536 % 256) ∷ (n / 256 % 256) ∷ (n % 256) ∷ []

-- low, high, waiting, splits and stop, eight bytes each
unfoldable pub framed : Report → List ℕ
framed x = eight_bytes (bits64 x.reading.low) ++ (eight_bytes (bits64 x.reading.high) ++ (eight_bytes x.reading.waiting ++ (eight_bytes x.reading.splits ++ eight_bytes (stop_number x.stop))))

-- ---- what a call comes to
abbrev pub numbered : Result Table Refusal → Result Table ℕ
numbered (Ok t) = Ok t
numbered (Err e) = Err (number_of e)

abbrev pub searched : Result Report SearchRefusal → Result Report ℕ
searched (Ok x) = Ok x
searched (Err e) = Err (search_number e)

-- the job is read, then the room for 40 bytes is looked at, then the system is searched; a refusal is its number
unfoldable pub asked_of : List ℕ → ℕ → ℕ → ℕ → Result Report ℕ
asked_of job c b room = and_then (numbered (parsed job)) (λ t. cond (nat_le 40 room) (searched (found_for t c b)) (Err 14))

-- 30: there is no memory for a search
abbrev pub no_figure_number : NoFigure → ℕ
no_figure_number no.Memory = 30
no_figure_number (no.Refused e) = search_number e

-- 14: the buffer has no room
abbrev pub call_number : CallRefusal → ℕ
call_number (call.Job e) = number_of e
call_number call.ShortBuffer = 14
call_number (call.Search e) = no_figure_number e

-- an answer is the one asked for, unless memory was wanted
abbrev pub Asked : Result Report CallRefusal → Result Report ℕ → Type 0
Asked (Ok x) o = o ≡ Ok x
Asked (Err e) o = (o ≡ Err (call_number e)) ⊎ (call_number e ≡ 30)

-- no refusal has the number 0
abbrev pub Named : Result Report CallRefusal → Type 0
Named (Ok x) = Unit {0}
Named (Err e) = call_number e ≡ 0 → ⊥

-- the low figure that is answered is at most component c, counted from 1, of every rational solution of every point system inside the job's system
abbrev pub Sound : Result Report CallRefusal → List ℕ → ℕ → Type 0
Sound (Ok x) job c = (t : Table) → parsed job ≡ Ok t → NeverBelow t c x.reading.low
Sound (Err e) job c = Unit {0}

-- a call that answered r, with the buffer at was before it and at is after it: the figures in the first 40 bytes and 0, or a number and nothing written
abbrev pub Did : ℕ → List ℕ → List ℕ → Result Report ℕ → Type 0
Did r was is (Ok x) = (r ≡ 0) × (is ≡ framed x ++ drop 40 was)
Did r was is (Err n) = (r ≡ n) × (is ≡ was)

abbrev pub Called : ℕ → List ℕ → List ℕ → Result Report ℕ → Type 0
Called r was is o = Did r was is o ⊎ ((r ≡ 30) × (is ≡ was))

-- answered 0: the job is read as a system, and the low figure in the first eight bytes is one that its component c is never below
abbrev pub Written : ℕ → List ℕ → List ℕ → ℕ → Type 0
Written r is job c = r ≡ 0 → (t : Table) × (low : ℤ) × (parsed job ≡ Ok t) × (take 8 is ≡ eight_bytes (bits64 low)) × NeverBelow t c low
