-- The bits of a number to which a power of two is added whose bit is not set. Assumes nothing.
use Rattle.std.proofs.Common.{◌≡◌, ℕ, zero, suc, ◌+◌, ◌-◌, ◌*◌, ◌/◌, ◌%◌, ◌^◌, ◌<◌, Bool, true, false, eqb, ltb, sym, refl, ap, ◌∙◌, subst, pow-suc, arith, pow_pos, pow-add, ltb-false, ltb-true, eq-eqb}
use native.Mathlib.Nat.{add-div_right, add-mul-div_right, div-div-eq-div-mul}
use Rattle.systems.specs.Boxes.{bit}

-- a bit is 1, or the number shifted to it is even
pub even : (n k : ℕ) → bit n k ≡ false → n / 2 ^ k % 2 ≡ 0
even n k e = by_rest (n / 2 ^ k % 2) (omega arith) e
  where
    by_rest : (r : ℕ) → r < 2 → eqb r 1 ≡ false → r ≡ 0
    by_rest zero h f = refl
    by_rest (suc zero) h f = absurd (let z : ◌≡◌ {A = ℕ} 0 1 = cc in omega arith)
    by_rest (suc (suc r)) h f = absurd (omega arith)

shifted_more : (n k : ℕ) → (n + 2 ^ k) / 2 ^ k ≡ n / 2 ^ k + 1
shifted_more n k = add-div_right n (pow_pos k)

-- the bit itself is set
pub bit-set : (n k : ℕ) → bit n k ≡ false → bit (n + 2 ^ k) k ≡ true
bit-set n k e =
    let x = even n k e in
    let y : (n / 2 ^ k + 1) % 2 ≡ 1 = omega arith in
    eq-eqb ((n + 2 ^ k) / 2 ^ k % 2) 1 (ap (λ z. z % 2) (shifted_more n k) ∙ y)

-- a lower bit stays
lower : (n j d : ℕ) → bit (n + 2 ^ (j + suc d)) j ≡ bit n j
lower n j d =
    let split : 2 ^ (j + suc d) ≡ 2 ^ suc d * 2 ^ j = pow-add 2 j (suc d) ∙ omega arith in
    let double : 2 ^ suc d ≡ 2 ^ d * 2 = pow-suc 2 d in
    let shift : (n + 2 ^ (j + suc d)) / 2 ^ j ≡ n / 2 ^ j + 2 ^ suc d = ap (λ z. (n + z) / 2 ^ j) split ∙ add-mul-div_right n (2 ^ suc d) (pow_pos j) in
    let rest : (n / 2 ^ j + 2 ^ suc d) % 2 ≡ n / 2 ^ j % 2 = omega arith in
    ap (λ z. eqb z 1) (ap (λ z. z % 2) shift ∙ rest)

-- a higher bit stays, since nothing is carried
higher : (n k d : ℕ) → bit n k ≡ false → bit (n + 2 ^ k) (k + suc d) ≡ bit n (k + suc d)
higher n k d e =
    let x = even n k e in
    let power : 2 ^ (k + suc d) ≡ 2 ^ k * 2 * 2 ^ d = pow-add 2 k (suc d) ∙ ap (λ z. 2 ^ k * z) (pow-suc 2 d) ∙ omega arith in
    let cut : (m : ℕ) → m / 2 ^ (k + suc d) ≡ m / 2 ^ k / 2 / 2 ^ d = λ m. ap (λ z. m / z) power ∙ sym (div-div-eq-div-mul m (2 ^ k * 2) (2 ^ d)) ∙ ap (λ z. z / 2 ^ d) (sym (div-div-eq-div-mul m (2 ^ k) 2)) in
    let half : (n / 2 ^ k + 1) / 2 ≡ n / 2 ^ k / 2 = omega arith in
    let same : (n + 2 ^ k) / 2 ^ (k + suc d) ≡ n / 2 ^ (k + suc d) = cut (n + 2 ^ k) ∙ ap (λ z. z / 2 / 2 ^ d) (shifted_more n k) ∙ ap (λ z. z / 2 ^ d) half ∙ sym (cut n) in
    ap (λ z. eqb (z % 2) 1) same

-- every other bit stays
pub bit_kept : (n k j : ℕ) → bit n k ≡ false → (j ≡ k → ⊥) → bit (n + 2 ^ k) j ≡ bit n j
bit_kept n k j e apart = by_test (ltb j k) refl
  where
    by_test : (b : Bool) → ltb j k ≡ b → bit (n + 2 ^ k) j ≡ bit n j
    by_test true h =
        let below = ltb-true j k h in
        let at : j + suc (k - j - 1) ≡ k = omega arith in
        subst (λ (m : ℕ). bit (n + 2 ^ m) j ≡ bit n j) at (lower n j (k - j - 1))
    by_test false h =
        let above = ltb-false j k h in
        let at : k + suc (j - k - 1) ≡ j = omega arith in
        subst (λ (m : ℕ). bit (n + 2 ^ k) m ≡ bit n m) at (higher n k (j - k - 1) e)
