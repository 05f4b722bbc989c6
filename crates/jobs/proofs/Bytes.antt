-- Bytes and numbers of four bytes, in a job and in what is left of it. Assumes nothing.
use Rattle.std.proofs.Common.{◌≡◌, ℕ, ◌+◌, ◌*◌, ◌^◌, ◌<◌, List, get_or, drop, sym, ap, ◌∙◌, add_assoc, arith, get_or-drop, w32, to_z}
use borrow.Author.Differences.{ints}
use Rattle.jobs.specs.Reading.{byte_at, number_at, twos_complement}

-- the machine's reading of 32 bits
machine : (n : ℕ) → n < 2 ^ 32 → to_z w32 n ≡ twos_complement n
machine n h = grind (arith, ints)

pub number_is : (bytes : List ℕ) (i : ℕ) → ((k : ℕ) → get_or bytes k 0 < 256)
    → to_z w32 (get_or bytes i 0 * 16777216 + get_or bytes (i + 1) 0 * 65536 + get_or bytes (i + 2) 0 * 256 + get_or bytes (i + 3) 0) ≡ number_at bytes i
unfolding number_at byte_at
number_is bytes i small =
    let a = small i in
    let b = small (i + 1) in
    let c = small (i + 2) in
    let d = small (i + 3) in
    machine (get_or bytes i 0 * 16777216 + get_or bytes (i + 1) 0 * 65536 + get_or bytes (i + 2) 0 * 256 + get_or bytes (i + 3) 0) (omega arith)

pub byte_on : (job : List ℕ) (at i : ℕ) → byte_at (drop at job) i ≡ byte_at job (at + i)
unfolding byte_at
byte_on job at i = get_or-drop at job i 0

pub number_on : (job : List ℕ) (at i : ℕ) → number_at (drop at job) i ≡ number_at job (at + i)
unfolding number_at
number_on job at i =
    let a = byte_on job at i in
    let b = byte_on job at (i + 1) ∙ ap (byte_at job) (sym (add_assoc at i 1)) in
    let c = byte_on job at (i + 2) ∙ ap (byte_at job) (sym (add_assoc at i 2)) in
    let d = byte_on job at (i + 3) ∙ ap (byte_at job) (sym (add_assoc at i 3)) in
    λ k. twos_complement (a k * 16777216 + b k * 65536 + c k * 256 + d k)
