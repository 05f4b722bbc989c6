-- Order and products in ℤ, and division that rounds.
use Rattle.std.proofs.Common.{◌≡◌, ℕ, suc, ◌<◌, ℤ, pos, negsuc, ◌+ℤ◌, ◌-ℤ◌, ◌*ℤ◌, neg_ℤ, nat_abs, ◌≤ℤ◌, ◌<ℤ◌, refl, ◌∙◌, arith}
use lib.IntN.{*ℤ_comm}
use Rattle.std.specs.Int.{int_min, int_max, int_div_euclid}
use Rattle.std.proofs.lemmas.Int.{by_lt_z, clamps, ints}
use Rattle.algebra.specs.Ring.{◌⊕◌, ◌⊖◌, ◌⊗◌, minus, lit, ◌⩵◌}
use Rattle.algebra.specs.Order.{Within, least, greatest, floor_div, ceil_div, floor_quot, ceil_quot}
use Rattle.algebra.proofs.Ring.{linear, solve, *ℤ-neg_ℤ, neg_ℤ-*ℤ}

-- ---- signs

-- a is below 0, is 0, or is above 0
pub by_sign : {P : Type 0} (a : ℤ) → (a <ℤ pos 0 → P) → (a ≡ pos 0 → P) → (pos 0 <ℤ a → P) → P
by_sign a below zero' above = by_lt_z a (pos 0) below (λ h. by_lt_z (pos 0) a above (λ k. zero' (omega (arith, linear))))

-- a positive integer is a natural number
pub natural : (a : ℤ) → pos 0 <ℤ a → pos (nat_abs a) ≡ a
natural (pos n) h = refl
natural (negsuc n) h = absurd (omega (arith, linear))

-- ---- products

pub product_nonneg : (a b : ℤ) → pos 0 ≤ℤ a → pos 0 ≤ℤ b → pos 0 ≤ℤ (a *ℤ b)
product_nonneg (pos a) (pos b) h k = omega (arith, linear)
product_nonneg (pos a) (negsuc b) h k = omega (arith, linear)
product_nonneg (negsuc a) b h k = omega (arith, linear)

pub product_positive : (a b : ℤ) → pos 0 <ℤ a → pos 0 <ℤ b → pos 0 <ℤ (a *ℤ b)
product_positive a b h k =
    let p = product_nonneg (a -ℤ pos 1) (b -ℤ pos 1) (omega (arith, linear)) (omega (arith, linear)) in
    let e = solve 2 (λ a b. (a ⊖ lit (pos 1)) ⊗ (b ⊖ lit (pos 1)) ⩵ a ⊗ b ⊖ a ⊖ b ⊕ lit (pos 1)) refl a b in
    omega (arith, linear)

pub times_mono : (a b c : ℤ) → pos 0 ≤ℤ a → b ≤ℤ c → (a *ℤ b) ≤ℤ (a *ℤ c)
times_mono a b c h k =
    let p = product_nonneg a (c -ℤ b) h (omega (arith, linear)) in
    let e = solve 3 (λ a b c. a ⊗ (c ⊖ b) ⩵ a ⊗ c ⊖ a ⊗ b) refl a b c in
    omega (arith, linear)

pub times_anti : (a b c : ℤ) → a ≤ℤ pos 0 → b ≤ℤ c → (a *ℤ c) ≤ℤ (a *ℤ b)
times_anti a b c h k =
    let p = product_nonneg (neg_ℤ a) (c -ℤ b) (omega (arith, linear)) (omega (arith, linear)) in
    let e = solve 3 (λ a b c. minus a ⊗ (c ⊖ b) ⩵ a ⊗ b ⊖ a ⊗ c) refl a b c in
    omega (arith, linear)

-- the same with the factor on the right
pub mono_times : (a b c : ℤ) → pos 0 ≤ℤ a → b ≤ℤ c → (b *ℤ a) ≤ℤ (c *ℤ a)
mono_times a b c h k = let t = times_mono a b c h k in omega (arith, linear, *ℤ_comm a b, *ℤ_comm a c)

pub times_strict : (a b c : ℤ) → pos 0 <ℤ a → b <ℤ c → (a *ℤ b) <ℤ (a *ℤ c)
times_strict a b c h k =
    let p = product_positive a (c -ℤ b) h (omega (arith, linear)) in
    let e = solve 3 (λ a b c. a ⊗ (c ⊖ b) ⩵ a ⊗ c ⊖ a ⊗ b) refl a b c in
    omega (arith, linear)

-- ---- cancelling a factor

pub cancel-≤ : (a b c : ℤ) → pos 0 <ℤ a → (a *ℤ b) ≤ℤ (a *ℤ c) → b ≤ℤ c
cancel-≤ a b c h k = by_lt_z c b (λ l. let s = times_strict a c b h l in omega (arith, linear)) (λ l. l)

pub cancel-< : (a b c : ℤ) → pos 0 <ℤ a → (a *ℤ b) <ℤ (a *ℤ c) → b <ℤ c
cancel-< a b c h k = by_lt_z b c (λ l. l) (λ l. let s = times_mono a c b (omega (arith, linear)) l in omega (arith, linear))

pub cancel-≡ : (a b c : ℤ) → ¬ (a ≡ pos 0) → a *ℤ b ≡ a *ℤ c → b ≡ c
cancel-≡ a b c n e = by_sign a
    (λ h. let h' : pos 0 <ℤ neg_ℤ a = omega (arith, linear) in
    let f = solve 2 (λ a b. minus a ⊗ b ⩵ minus (a ⊗ b)) refl a b in
    let g = solve 2 (λ a c. minus a ⊗ c ⩵ minus (a ⊗ c)) refl a c in
    let p = cancel-≤ (neg_ℤ a) b c h' (omega (arith, linear)) in
    let q = cancel-≤ (neg_ℤ a) c b h' (omega (arith, linear)) in
    omega (arith, linear))
    (λ z. absurd (n z))
    (λ h. let p = cancel-≤ a b c h (omega (arith, linear)) in
    let q = cancel-≤ a c b h (omega (arith, linear)) in
    omega (arith, linear))

pub product_zero : (a b : ℤ) → ¬ (a ≡ pos 0) → a *ℤ b ≡ pos 0 → b ≡ pos 0
product_zero a b n e = cancel-≡ a b (pos 0) n (e ∙ solve 1 (λ a. lit (pos 0) ⩵ a ⊗ lit (pos 0)) refl a)

-- ---- a product lies between the products of the ends

-- for one factor y, of any sign
pub times_within : (y a b x : ℤ) → Within a b x → Within (int_min (y *ℤ a) (y *ℤ b)) (int_max (y *ℤ a) (y *ℤ b)) (y *ℤ x)
times_within y a b x h = by_lt_z y (pos 0)
    (λ n. let n' : y ≤ℤ pos 0 = omega (arith, linear) in
    let l = times_anti y a x n' h.low in
    let u = times_anti y x b n' h.high in
    omega (arith, linear, clamps))
    (λ n. let l = times_mono y a x n h.low in
    let u = times_mono y x b n h.high in
    omega (arith, linear, clamps))

-- the ends of a range lie in ranges of their own
nested_within : (p q r s u v z : ℤ) → Within (int_min p q) (int_max p q) u → Within (int_min r s) (int_max r s) v → Within (int_min u v) (int_max u v) z → Within (least p q r s) (greatest p q r s) z
nested_within p q r s u v z hu hv hz = omega (arith, linear, clamps)

pub product_within : (a b c d x y : ℤ) → Within a b x → Within c d y → Within (least (a *ℤ c) (a *ℤ d) (b *ℤ c) (b *ℤ d)) (greatest (a *ℤ c) (a *ℤ d) (b *ℤ c) (b *ℤ d)) (x *ℤ y)
product_within a b c d x y h k =
    let t : Within (int_min (a *ℤ y) (b *ℤ y)) (int_max (a *ℤ y) (b *ℤ y)) (x *ℤ y) = rw (*ℤ_comm a y, *ℤ_comm b y, *ℤ_comm x y) (times_within y a b x h) in
    nested_within (a *ℤ c) (a *ℤ d) (b *ℤ c) (b *ℤ d) (a *ℤ y) (b *ℤ y) (x *ℤ y) (times_within a c d y k) (times_within b c d y k) t

-- a bound of the products at the ends is a bound of each product between
pub times_above : (m y a b x : ℤ) → Within a b x → m ≤ℤ (y *ℤ a) → m ≤ℤ (y *ℤ b) → m ≤ℤ (y *ℤ x)
times_above m y a b x h p q = let w = times_within y a b x h in omega (arith, linear, clamps)

pub times_below : (m y a b x : ℤ) → Within a b x → (y *ℤ a) ≤ℤ m → (y *ℤ b) ≤ℤ m → (y *ℤ x) ≤ℤ m
times_below m y a b x h p q = let w = times_within y a b x h in omega (arith, linear, clamps)

pub product_above : (m a b c d x y : ℤ) → Within a b x → Within c d y → m ≤ℤ (a *ℤ c) → m ≤ℤ (a *ℤ d) → m ≤ℤ (b *ℤ c) → m ≤ℤ (b *ℤ d) → m ≤ℤ (x *ℤ y)
product_above m a b c d x y h k p q r s = let w = product_within a b c d x y h k in omega (arith, linear, clamps)

pub product_below : (m a b c d x y : ℤ) → Within a b x → Within c d y → (a *ℤ c) ≤ℤ m → (a *ℤ d) ≤ℤ m → (b *ℤ c) ≤ℤ m → (b *ℤ d) ≤ℤ m → (x *ℤ y) ≤ℤ m
product_below m a b c d x y h k p q r s = let w = product_within a b c d x y h k in omega (arith, linear, clamps)

-- ---- division by a positive natural, rounded down

pub floor_div_low : (z : ℤ) (k : ℕ) → 0 < k → (pos k *ℤ floor_div z k) ≤ℤ z
unfolding floor_div
floor_div_low (pos a) k h = omega (arith, linear)
floor_div_low (negsuc a) k h = omega (arith, linear)

pub floor_div_high : (z : ℤ) (k : ℕ) → 0 < k → z <ℤ (pos k *ℤ floor_div z k +ℤ pos k)
unfolding floor_div
floor_div_high (pos a) k h = omega (arith, linear)
floor_div_high (negsuc a) k h = omega (arith, linear)

-- it is the greatest such number
pub floor_div_best : (z : ℤ) (k : ℕ) (q : ℤ) → 0 < k → (pos k *ℤ q) ≤ℤ z → q ≤ℤ floor_div z k
floor_div_best z k q h l =
    let f = floor_div z k in
    let u = floor_div_high z k h in
    let e = solve 2 (λ k f. k ⊗ (f ⊕ lit (pos 1)) ⩵ k ⊗ f ⊕ k) refl (pos k) f in
    let s = cancel-< (pos k) q (f +ℤ pos 1) (omega (arith, linear)) (omega (arith, linear)) in
    omega (arith, linear)

pub floor_div_mono : (z w : ℤ) (k : ℕ) → 0 < k → z ≤ℤ w → floor_div z k ≤ℤ floor_div w k
floor_div_mono z w k h l = let a = floor_div_low z k h in floor_div_best w k (floor_div z k) h (omega (arith, linear))

-- ---- and rounded up

pub ceil_div_high : (z : ℤ) (k : ℕ) → 0 < k → z ≤ℤ (pos k *ℤ ceil_div z k)
unfolding ceil_div
ceil_div_high z k h =
    let l = floor_div_low (neg_ℤ z) k h in
    let e = *ℤ-neg_ℤ (pos k) (floor_div (neg_ℤ z) k) in
    omega (arith, linear)

pub ceil_div_low : (z : ℤ) (k : ℕ) → 0 < k → (pos k *ℤ ceil_div z k) <ℤ (z +ℤ pos k)
unfolding ceil_div
ceil_div_low z k h =
    let l = floor_div_high (neg_ℤ z) k h in
    let e = *ℤ-neg_ℤ (pos k) (floor_div (neg_ℤ z) k) in
    omega (arith, linear)

-- it is the least such number
pub ceil_div_best : (z : ℤ) (k : ℕ) (q : ℤ) → 0 < k → z ≤ℤ (pos k *ℤ q) → ceil_div z k ≤ℤ q
unfolding ceil_div
ceil_div_best z k q h l =
    let e = *ℤ-neg_ℤ (pos k) q in
    let b = floor_div_best (neg_ℤ z) k (neg_ℤ q) h (omega (arith, linear)) in
    omega (arith, linear)

pub ceil_div_mono : (z w : ℤ) (k : ℕ) → 0 < k → z ≤ℤ w → ceil_div z k ≤ℤ ceil_div w k
ceil_div_mono z w k h l = let a = ceil_div_high w k h in ceil_div_best z k (ceil_div w k) h (omega (arith, linear))

-- ---- division by an integer other than 0: for a negative divisor each order is turned round

pub floor_quot_low : (z d : ℤ) → pos 0 <ℤ d → (d *ℤ floor_quot z d) ≤ℤ z
unfolding floor_quot
floor_quot_low z (pos k) h = floor_div_low z k (omega (arith, linear))
floor_quot_low z (negsuc k) h = omega (arith, linear)

pub floor_quot_low_neg : (z d : ℤ) → d <ℤ pos 0 → z ≤ℤ (d *ℤ floor_quot z d)
unfolding floor_quot
floor_quot_low_neg z (pos k) h = omega (arith, linear)
floor_quot_low_neg z (negsuc k) h =
    let l = floor_div_low (neg_ℤ z) (suc k) (omega arith) in
    let e = neg_ℤ-*ℤ (pos (suc k)) (floor_div (neg_ℤ z) (suc k)) in
    omega (arith, linear)

pub floor_quot_high : (z d : ℤ) → pos 0 <ℤ d → z <ℤ (d *ℤ floor_quot z d +ℤ d)
unfolding floor_quot
floor_quot_high z (pos k) h = floor_div_high z k (omega (arith, linear))
floor_quot_high z (negsuc k) h = omega (arith, linear)

pub floor_quot_high_neg : (z d : ℤ) → d <ℤ pos 0 → (d *ℤ floor_quot z d +ℤ d) <ℤ z
unfolding floor_quot
floor_quot_high_neg z (pos k) h = omega (arith, linear)
floor_quot_high_neg z (negsuc k) h =
    let l = floor_div_high (neg_ℤ z) (suc k) (omega arith) in
    let e = neg_ℤ-*ℤ (pos (suc k)) (floor_div (neg_ℤ z) (suc k)) in
    omega (arith, linear)

-- it is the greatest such number
pub floor_quot_best : (z d q : ℤ) → pos 0 <ℤ d → (d *ℤ q) ≤ℤ z → q ≤ℤ floor_quot z d
unfolding floor_quot
floor_quot_best z (pos k) q h l = floor_div_best z k q (omega (arith, linear)) l
floor_quot_best z (negsuc k) q h l = omega (arith, linear)

pub floor_quot_best_neg : (z d q : ℤ) → d <ℤ pos 0 → z ≤ℤ (d *ℤ q) → q ≤ℤ floor_quot z d
unfolding floor_quot
floor_quot_best_neg z (pos k) q h l = omega (arith, linear)
floor_quot_best_neg z (negsuc k) q h l =
    let e = neg_ℤ-*ℤ (pos (suc k)) q in
    floor_div_best (neg_ℤ z) (suc k) q (omega arith) (omega (arith, linear))

pub floor_quot_mono : (z w d : ℤ) → pos 0 <ℤ d → z ≤ℤ w → floor_quot z d ≤ℤ floor_quot w d
floor_quot_mono z w d h l = let a = floor_quot_low z d h in floor_quot_best w d (floor_quot z d) h (omega (arith, linear))

pub floor_quot_mono_neg : (z w d : ℤ) → d <ℤ pos 0 → z ≤ℤ w → floor_quot w d ≤ℤ floor_quot z d
floor_quot_mono_neg z w d h l = let a = floor_quot_low_neg w d h in floor_quot_best_neg z d (floor_quot w d) h (omega (arith, linear))

pub ceil_quot_high : (z d : ℤ) → pos 0 <ℤ d → z ≤ℤ (d *ℤ ceil_quot z d)
unfolding ceil_quot
ceil_quot_high z d h =
    let l = floor_quot_low (neg_ℤ z) d h in
    let e = *ℤ-neg_ℤ d (floor_quot (neg_ℤ z) d) in
    omega (arith, linear)

pub ceil_quot_high_neg : (z d : ℤ) → d <ℤ pos 0 → (d *ℤ ceil_quot z d) ≤ℤ z
unfolding ceil_quot
ceil_quot_high_neg z d h =
    let l = floor_quot_low_neg (neg_ℤ z) d h in
    let e = *ℤ-neg_ℤ d (floor_quot (neg_ℤ z) d) in
    omega (arith, linear)

pub ceil_quot_low : (z d : ℤ) → pos 0 <ℤ d → (d *ℤ ceil_quot z d) <ℤ (z +ℤ d)
unfolding ceil_quot
ceil_quot_low z d h =
    let l = floor_quot_high (neg_ℤ z) d h in
    let e = *ℤ-neg_ℤ d (floor_quot (neg_ℤ z) d) in
    omega (arith, linear)

pub ceil_quot_low_neg : (z d : ℤ) → d <ℤ pos 0 → (z +ℤ d) <ℤ (d *ℤ ceil_quot z d)
unfolding ceil_quot
ceil_quot_low_neg z d h =
    let l = floor_quot_high_neg (neg_ℤ z) d h in
    let e = *ℤ-neg_ℤ d (floor_quot (neg_ℤ z) d) in
    omega (arith, linear)

-- it is the least such number
pub ceil_quot_best : (z d q : ℤ) → pos 0 <ℤ d → z ≤ℤ (d *ℤ q) → ceil_quot z d ≤ℤ q
unfolding ceil_quot
ceil_quot_best z d q h l =
    let e = *ℤ-neg_ℤ d q in
    let b = floor_quot_best (neg_ℤ z) d (neg_ℤ q) h (omega (arith, linear)) in
    omega (arith, linear)

pub ceil_quot_best_neg : (z d q : ℤ) → d <ℤ pos 0 → (d *ℤ q) ≤ℤ z → ceil_quot z d ≤ℤ q
unfolding ceil_quot
ceil_quot_best_neg z d q h l =
    let e = *ℤ-neg_ℤ d q in
    let b = floor_quot_best_neg (neg_ℤ z) d (neg_ℤ q) h (omega (arith, linear)) in
    omega (arith, linear)

pub ceil_quot_mono : (z w d : ℤ) → pos 0 <ℤ d → z ≤ℤ w → ceil_quot z d ≤ℤ ceil_quot w d
ceil_quot_mono z w d h l = let a = ceil_quot_high w d h in ceil_quot_best z d (ceil_quot w d) h (omega (arith, linear))

pub ceil_quot_mono_neg : (z w d : ℤ) → d <ℤ pos 0 → z ≤ℤ w → ceil_quot w d ≤ℤ ceil_quot z d
ceil_quot_mono_neg z w d h l = let a = ceil_quot_high_neg z d h in ceil_quot_best_neg w d (ceil_quot z d) h (omega (arith, linear))

-- ---- a bound of a quotient is a bound of a product

pub floor_quot_above : (z d q : ℤ) → pos 0 <ℤ d → q ≤ℤ floor_quot z d → (d *ℤ q) ≤ℤ z
floor_quot_above z d q h l =
    let a = floor_quot_low z d h in
    let b = times_mono d q (floor_quot z d) (omega (arith, linear)) l in
    omega (arith, linear)

pub floor_quot_above_neg : (z d q : ℤ) → d <ℤ pos 0 → q ≤ℤ floor_quot z d → z ≤ℤ (d *ℤ q)
floor_quot_above_neg z d q h l =
    let a = floor_quot_low_neg z d h in
    let b = times_anti d q (floor_quot z d) (omega (arith, linear)) l in
    omega (arith, linear)

pub ceil_quot_below : (z d q : ℤ) → pos 0 <ℤ d → ceil_quot z d ≤ℤ q → z ≤ℤ (d *ℤ q)
ceil_quot_below z d q h l =
    let a = ceil_quot_high z d h in
    let b = times_mono d (ceil_quot z d) q (omega (arith, linear)) l in
    omega (arith, linear)

pub ceil_quot_below_neg : (z d q : ℤ) → d <ℤ pos 0 → ceil_quot z d ≤ℤ q → (d *ℤ q) ≤ℤ z
ceil_quot_below_neg z d q h l =
    let a = ceil_quot_high_neg z d h in
    let b = times_anti d (ceil_quot z d) q (omega (arith, linear)) l in
    omega (arith, linear)

-- what `div_euclid` answers at a divisor above 0
pub floor_euclid : (z d : ℤ) → pos 0 <ℤ d → int_div_euclid z d ≡ floor_quot z d
unfolding floor_quot floor_div
floor_euclid (pos a) (pos k) h = refl
floor_euclid (negsuc a) (pos k) h = refl
floor_euclid z (negsuc k) h = absurd (omega (arith, ints))
