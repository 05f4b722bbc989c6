-- A row whose coefficient at the greatest component outweighs its others bounds that component. Assumes nothing.
use Rattle.std.specs.Prelude.{◌≡◌, ℕ, zero, suc, ◌<◌, List, [], ◌∷◌, length, ℤ, pos, ◌+ℤ◌, ◌-ℤ◌, ◌*ℤ◌, ◌≤ℤ◌, ◌<ℤ◌, slice_set, refl}
use Rattle.std.proofs.Common.{arith, sym, ap, ◌∙◌, length-set}
use Rattle.std.proofs.lemmas.Int.{by_lt_z}
use Rattle.algebra.specs.Ring.{◌⊕◌, ◌⊖◌, ◌⊗◌, minus, lit, ◌⩵◌}
use Rattle.algebra.specs.Vectors.{at, dot, sum}
use Rattle.algebra.proofs.Order.{times_mono, mono_times, product_nonneg, cancel-≤}
use Rattle.algebra.proofs.Ring.{linear, solve}
use Rattle.algebra.proofs.Vectors.{dot-set}
use Rattle.enclosures.specs.RowSums.{absolute}
use Rattle.enclosures.specs.Absolutes.{absolute_nonneg, absolute_within, absolute_below, absolute_times}

le_refl : (a : ℤ) → a ≤ℤ a
le_refl a = omega (arith, linear)

le_trans : (a b c : ℤ) → a ≤ℤ b → b ≤ℤ c → a ≤ℤ c
le_trans a b c p q = omega (arith, linear)

-- ---- a component of the greatest absolute value
pub record Peak (x : List ℤ) : Type 0 where
  pub place : ℕ
  pub inside : place < length x
  pub highest : (j : ℕ) → absolute (at x j) ≤ℤ absolute (at x place)

first_highest : (a : ℤ) (x : List ℤ) → ((j : ℕ) → absolute (at x j) ≤ℤ absolute a) → (j : ℕ) → absolute (at (a ∷ x) j) ≤ℤ absolute a
first_highest a x h zero = le_refl (absolute a)
first_highest a x h (suc j) = h j

later_highest : (a m : ℤ) (x : List ℤ) → absolute a ≤ℤ m → ((j : ℕ) → absolute (at x j) ≤ℤ m) → (j : ℕ) → absolute (at (a ∷ x) j) ≤ℤ m
later_highest a m x h k zero = h
later_highest a m x h k (suc j) = k j

pub peak : (a : ℤ) (x : List ℤ) → Peak (a ∷ x)
peak a [] = record { place = 0; inside = omega arith; highest = first_highest a [] (λ j. absolute_nonneg a) }
peak a (b ∷ x) =
    let p = peak b x in
    let m = absolute (at (b ∷ x) p.place) in
    by_lt_z m (absolute a)
    (λ h. record { place = 0; inside = omega arith; highest = first_highest a (b ∷ x) (λ j. le_trans (absolute (at (b ∷ x) j)) m (absolute a) (p.highest j) (omega (arith, linear))) })
    (λ h. let inside = p.inside in record { place = suc p.place; inside = omega arith; highest = later_highest a m (b ∷ x) h p.highest })

-- ---- sums
absolute_plus : (a b : ℤ) → absolute (a +ℤ b) ≤ℤ (absolute a +ℤ absolute b)
absolute_plus a b =
    let p = absolute_within a in
    let q = absolute_within b in
    absolute_below (a +ℤ b) (absolute a +ℤ absolute b) (record { low = omega (arith, linear); high = omega (arith, linear) })

absolute_minus : (a b : ℤ) → absolute (a -ℤ b) ≤ℤ (absolute a +ℤ absolute b)
absolute_minus a b =
    let p = absolute_within a in
    let q = absolute_within b in
    absolute_below (a -ℤ b) (absolute a +ℤ absolute b) (record { low = omega (arith, linear); high = omega (arith, linear) })

-- a product of two numbers with these bounds
product_small : (a b c m : ℤ) → absolute a ≤ℤ b → absolute c ≤ℤ m → absolute (a *ℤ c) ≤ℤ (b *ℤ m)
product_small a b c m h k =
    let n = absolute_nonneg a in
    let e = absolute_times a c in
    let p = mono_times (absolute c) (absolute a) b (absolute_nonneg c) h in
    let q = times_mono b (absolute c) m (omega (arith, linear)) k in
    omega (arith, linear)

-- a dot product, from bounds w on one vector and a bound m on the other
pub dot_small : (v w x : List ℤ) (m : ℤ) → length v ≡ length w → ((j : ℕ) → j < length v → absolute (at v j) ≤ℤ at w j) → ((j : ℕ) → absolute (at x j) ≤ℤ m) → absolute (dot v x) ≤ℤ (sum w *ℤ m)
unfolding dot sum
dot_small [] [] x m l h k = let z = solve 1 (λ m. lit (pos 0) ⊗ m ⩵ lit (pos 0)) refl m in omega (arith, linear)
dot_small [] (b ∷ w) x m l h k = absurd (let z : ◌≡◌ {A = ℕ} 0 1 = cc in omega arith)
dot_small (a ∷ v) [] x m l h k = absurd (let z : ◌≡◌ {A = ℕ} 0 1 = cc in omega arith)
dot_small (a ∷ v) (b ∷ w) [] m l h k =
    let rest = dot_small v w [] m (omega arith) (λ j g. h (suc j) (omega arith)) k in
    let some = absolute_nonneg (dot v []) in
    let n = absolute_nonneg a in
    let first = h 0 (omega arith) in
    let z = k 0 in
    let p = product_nonneg b m (omega (arith, linear)) (omega (arith, linear)) in
    let e = solve 3 (λ b w m. (b ⊕ w) ⊗ m ⩵ b ⊗ m ⊕ w ⊗ m) refl b (sum w) m in
    omega (arith, linear)
dot_small (a ∷ v) (b ∷ w) (c ∷ x) m l h k =
    let rest = dot_small v w x m (omega arith) (λ j g. h (suc j) (omega arith)) (λ j. k (suc j)) in
    let first = product_small a b c m (h 0 (omega arith)) (k 0) in
    let both = absolute_plus (a *ℤ c) (dot v x) in
    let e = solve 3 (λ b w m. (b ⊕ w) ⊗ m ⩵ b ⊗ m ⊕ w ⊗ m) refl b (sum w) m in
    omega (arith, linear)

-- ---- one row: q y is what its right side b s leaves of the others' sum d
module _ (k q y b s d m t r : ℤ) (positive : pos 0 <ℤ k) (nonneg : pos 0 ≤ℤ s) (solves : q *ℤ y ≡ b *ℤ s -ℤ d)
    (own : (k *ℤ m) ≤ℤ absolute q) (others : absolute d ≤ℤ ((k *ℤ t) *ℤ absolute y)) (right : absolute b ≤ℤ (k *ℤ r)) where
  pub outweighed : ((m -ℤ t) *ℤ absolute y) ≤ℤ (r *ℤ s)
  outweighed =
      let y' = absolute y in
      let left = mono_times y' (k *ℤ m) (absolute q) (absolute_nonneg y) own in
      let product : absolute q *ℤ y' ≡ absolute (b *ℤ s -ℤ d) = sym (absolute_times q y) ∙ ap absolute solves in
      let split = absolute_minus (b *ℤ s) d in
      let side = product_small b (k *ℤ r) s s right (absolute_below s s (record { low = omega (arith, linear); high = omega (arith, linear) })) in
      let e = solve 4 (λ k m t y. k ⊗ ((m ⊖ t) ⊗ y) ⩵ k ⊗ m ⊗ y ⊖ k ⊗ t ⊗ y) refl k m t y' in
      let f = solve 3 (λ k r s. k ⊗ (r ⊗ s) ⩵ k ⊗ r ⊗ s) refl k r s in
      cancel-≤ k ((m -ℤ t) *ℤ y') (r *ℤ s) positive (omega (arith, linear))

-- the same row in grains: c is at least r × 16384 over g
pub in_grains_bounded : (g y r s c a : ℤ) → pos 0 <ℤ g → pos 0 ≤ℤ s → (g *ℤ y) ≤ℤ (r *ℤ s) → (r *ℤ pos 16384) ≤ℤ (g *ℤ c) → c ≤ℤ a → (pos 16384 *ℤ y) ≤ℤ (a *ℤ s)
in_grains_bounded g y r s c a positive nonneg h up below =
    let scaled = times_mono (pos 16384) (g *ℤ y) (r *ℤ s) (omega (arith, linear)) h in
    let rounded = mono_times s (r *ℤ pos 16384) (g *ℤ c) nonneg up in
    let e = solve 3 (λ k g y. k ⊗ (g ⊗ y) ⩵ g ⊗ (k ⊗ y)) refl (pos 16384) g y in
    let f = solve 3 (λ k r s. k ⊗ (r ⊗ s) ⩵ r ⊗ k ⊗ s) refl (pos 16384) r s in
    let i = solve 3 (λ g c s. g ⊗ c ⊗ s ⩵ g ⊗ (c ⊗ s)) refl g c s in
    let one = cancel-≤ g (pos 16384 *ℤ y) (c *ℤ s) positive (omega (arith, linear)) in
    let most = mono_times s c a nonneg below in
    omega (arith, linear)

-- ---- a row of coefficients u, with bounds w on them but for the one at i, at which x has its greatest component
pub row_bounds : (k : ℤ) (u w x : List ℤ) (i : ℕ) (b s m r t : ℤ) → pos 0 <ℤ k → pos 0 ≤ℤ s → i < length u → length u ≡ length w
    → ((j : ℕ) → absolute (at x j) ≤ℤ absolute (at x i)) → ((j : ℕ) → j < length u → absolute (at (slice_set u i (pos 0)) j) ≤ℤ at w j)
    → (k *ℤ m) ≤ℤ absolute (at u i) → absolute b ≤ℤ (k *ℤ r) → dot u x ≡ b *ℤ s → sum w ≡ k *ℤ t → ((m -ℤ t) *ℤ absolute (at x i)) ≤ℤ (r *ℤ s)
row_bounds k u w x i b s m r t positive nonneg inside long highest others own right solves total =
    let v = slice_set u i (pos 0) in
    let apart = dot-set u x i (pos 0) inside in
    let e = solve 2 (λ q y. (lit (pos 0) ⊖ q) ⊗ y ⩵ minus (q ⊗ y)) refl (at u i) (at x i) in
    let small = dot_small v w x (absolute (at x i)) (length-set u i (pos 0) ∙ long) (λ j h. others j (rw length-set at h)) highest in
    let small' : absolute (dot v x) ≤ℤ ((k *ℤ t) *ℤ absolute (at x i)) = rw total at small in
    outweighed k (at u i) (at x i) b s (dot v x) m t r positive nonneg (omega (arith, linear)) own small' right
