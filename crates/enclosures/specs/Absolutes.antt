-- Absolute values, and the greatest and the least in an interval. Assumes nothing.
use Rattle.std.specs.Prelude.{◌≡◌, ℕ, true, false, ℤ, pos, negsuc, ◌*ℤ◌, neg_ℤ, ◌≤ℤ◌, ◌<ℤ◌, refl}
use Rattle.std.proofs.Common.{arith, sym, ◌∙◌}
use Rattle.std.proofs.Math.IntN.{*ℤ-zero}
use Rattle.std.proofs.lemmas.Int.{by_lt_z, clamps, ints}
use Rattle.std.proofs.lemmas.Bool.{cond-true, cond-false}
use Rattle.std.specs.Int.{int_min, int_max}
use Rattle.algebra.specs.Ends.{Ends, Ordered, Included}
use Rattle.algebra.specs.Order.{Within}
use Rattle.algebra.specs.Ring.{◌⊗◌, minus, ◌⩵◌}
use Rattle.algebra.proofs.Order.{times_mono}
use Rattle.algebra.proofs.Ring.{linear, solve}
use Rattle.grains.specs.Arithmetic.{contains_zero}
use Rattle.enclosures.specs.RowSums.{absolute, magnitude, mignitude}

pub absolute_nonneg : (a : ℤ) → pos 0 ≤ℤ absolute a
absolute_nonneg a = omega (arith, ints)

-- a lies from -|a| to |a|
pub absolute_within : (a : ℤ) → Within (neg_ℤ (absolute a)) (absolute a) a
absolute_within a = record { low = omega (arith, ints); high = omega (arith, ints) }

-- whatever bounds a and -a bounds |a|
pub absolute_below : (a m : ℤ) → Within (neg_ℤ m) m a → absolute a ≤ℤ m
absolute_below a m w = omega (arith, ints)

pub absolute_times : (a b : ℤ) → absolute (a *ℤ b) ≡ absolute a *ℤ absolute b
absolute_times (pos a) (pos b) = omega (arith, ints)
absolute_times (pos a) (negsuc b) = omega (arith, ints)
absolute_times (negsuc a) (pos b) = omega (arith, ints)
absolute_times (negsuc a) (negsuc b) = omega (arith, ints)

-- ---- the greatest and the least
pub magnitude_low : (e : Ends) → neg_ℤ (magnitude e) ≤ℤ e.low
unfolding magnitude
magnitude_low e = omega (arith, ints, clamps)

pub magnitude_high : (e : Ends) → e.high ≤ℤ magnitude e
unfolding magnitude
magnitude_high e = omega (arith, ints, clamps)

pub magnitude_nonneg : (e : Ends) → pos 0 ≤ℤ magnitude e
unfolding magnitude
magnitude_nonneg e = omega (arith, ints, clamps)

pub magnitude_below : (e : Ends) (m : ℤ) → Ordered e → neg_ℤ m ≤ℤ e.low → e.high ≤ℤ m → magnitude e ≤ℤ m
unfolding magnitude
magnitude_below e m o l h = omega (arith, ints, clamps)

pub mignitude_nonneg : (e : Ends) → pos 0 ≤ℤ mignitude e
unfolding mignitude contains_zero
mignitude_nonneg e = grind (arith, ints)

-- an interval on one side of 0, and one that contains it
pub mignitude_above : (e : Ends) → pos 0 <ℤ e.low → mignitude e ≤ℤ e.low
unfolding mignitude contains_zero
mignitude_above e h = grind (arith, ints)

pub mignitude_below : (e : Ends) → e.high <ℤ pos 0 → mignitude e ≤ℤ neg_ℤ e.high
unfolding mignitude contains_zero
mignitude_below e h = grind (arith, ints)

pub mignitude_zero : (e : Ends) → e.low ≤ℤ pos 0 → pos 0 ≤ℤ e.high → mignitude e ≡ pos 0
unfolding mignitude contains_zero
mignitude_zero e l h = grind (arith, ints)

-- by their ends: general statements, which stand for others to use
pub magnitude_made : (e : Ends) (r : ℤ) → r ≡ int_max (absolute e.low) (absolute e.high) → r ≡ magnitude e
unfolding magnitude
magnitude_made e r made = made

pub mignitude_none : (e : Ends) → contains_zero e ≡ true → pos 0 ≡ mignitude e
unfolding mignitude
mignitude_none e inside = sym (cond-true (contains_zero e) (pos 0) (int_min (absolute e.low) (absolute e.high)) inside)

pub mignitude_made : (e : Ends) (r : ℤ) → contains_zero e ≡ false → r ≡ int_min (absolute e.low) (absolute e.high) → r ≡ mignitude e
unfolding mignitude
mignitude_made e r apart made = made ∙ sym (cond-false (contains_zero e) (pos 0) (int_min (absolute e.low) (absolute e.high)) apart)

-- the least absolute value as the code works it out
pub mignitude_clamped : (e : Ends) (r : ℤ) → Ordered e → r ≡ int_max (int_max e.low (neg_ℤ e.high)) (pos 0) → r ≡ mignitude e
unfolding mignitude contains_zero
mignitude_clamped e r o made = grind (arith, ints, clamps)

-- ---- a number over a scale that lies in an interval
module _ (e : Ends) (k : ℕ) (a : ℤ) (lies : Within (pos k *ℤ e.low) (pos k *ℤ e.high) a) where
  pub magnitude_point : absolute a ≤ℤ (pos k *ℤ magnitude e)
  magnitude_point =
      let low = times_mono (pos k) (neg_ℤ (magnitude e)) e.low (omega (arith, linear)) (magnitude_low e) in
      let high = times_mono (pos k) e.high (magnitude e) (omega (arith, linear)) (magnitude_high e) in
      let turn = solve 2 (λ k m. k ⊗ minus m ⩵ minus (k ⊗ m)) refl (pos k) (magnitude e) in
      absolute_below a (pos k *ℤ magnitude e) (record { low = omega (arith, linear); high = omega (arith, linear) })

  pub mignitude_point : (pos k *ℤ mignitude e) ≤ℤ absolute a
  mignitude_point =
      let w = absolute_within a in
      by_lt_z (pos 0) e.low
      (λ h. let m = times_mono (pos k) (mignitude e) e.low (omega (arith, linear)) (mignitude_above e h) in omega (arith, linear))
      (λ l. by_lt_z e.high (pos 0)
      (λ h. let m = times_mono (pos k) (mignitude e) (neg_ℤ e.high) (omega (arith, linear)) (mignitude_below e h) in
      let turn = solve 2 (λ k m. k ⊗ minus m ⩵ minus (k ⊗ m)) refl (pos k) e.high in
      omega (arith, linear))
      (λ h. let z : pos k *ℤ mignitude e ≡ pos 0 = rw (mignitude_zero e l h) (*ℤ-zero (pos k)) in
      let p = absolute_nonneg a in
      omega (arith, linear)))

-- ---- an interval within another
pub magnitude_narrows : (e f : Ends) → Ordered e → Included e f → magnitude e ≤ℤ magnitude f
magnitude_narrows e f o i =
    let l = magnitude_low f in
    let h = magnitude_high f in
    magnitude_below e (magnitude f) o (omega (arith, linear)) (omega (arith, linear))

pub mignitude_narrows : (e f : Ends) → Ordered e → Included e f → mignitude f ≤ℤ mignitude e
unfolding mignitude contains_zero
mignitude_narrows e f o i = grind (arith, ints)
