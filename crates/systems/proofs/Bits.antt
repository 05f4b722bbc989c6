-- Bits of numbers. Assumes nothing.
use Rattle.std.proofs.Common.{◌≡◌, ℕ, ◌/◌, ◌%◌, ◌^◌, ◌<◌, ◌≤◌, false, ◌==◌, ap, arith}
use Rattle.std.proofs.Math.Nat.{pow-le-pow_right}
use Rattle.std.proofs.lemmas.Nat.{div_below, pow_pos}
use Rattle.systems.specs.Boxes.{bit}

-- a number of 64 bits has no bit from place 64 on
pub no_bit : (n k : ℕ) → n < 2 ^ 64 → 64 ≤ k → bit n k ≡ false
no_bit n k small far =
    let room : 2 ^ 64 ≤ 2 ^ k = pow-le-pow_right (pow_pos 1) far in
    let none : n / 2 ^ k ≡ 0 = omega (arith, div_below n (2 ^ k) 1 (pow_pos k) (omega (arith, room))) in
    ap (λ q. q % 2 == 1) none
