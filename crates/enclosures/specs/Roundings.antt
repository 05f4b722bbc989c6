-- Quotients that are rounded up. Assumes nothing.
use Rattle.std.proofs.Common.{arith, ap, ◌∙◌}
use Rattle.std.specs.Prelude.{◌≡◌, ℤ, pos, ◌*ℤ◌, neg_ℤ, ◌≤ℤ◌, ◌<ℤ◌, Some, Option}
use Rattle.std.proofs.Math.IntN.{*ℤ-zero}
use Rattle.std.proofs.lemmas.Int.{ints}
use Rattle.std.specs.Int.{int_div_euclid}
use Rattle.std.specs.Option.{option_map}
use Rattle.algebra.specs.Ends.{from_to}
use Rattle.algebra.specs.Order.{Within, ceil_quot}
use Rattle.algebra.proofs.Order.{mono_times, cancel-≤, ceil_quot_high, ceil_quot_best, floor_euclid}
use Rattle.algebra.proofs.Ring.{linear}
use Rattle.grains.specs.declared.interval.Interval.{Interval}
use Rattle.grains.specs.Arithmetic.{ends_of, in_span, interval_of}

pub quotient_nonneg : (z d : ℤ) → pos 0 ≤ℤ z → pos 0 <ℤ d → pos 0 ≤ℤ ceil_quot z d
quotient_nonneg z d h k =
    let up = ceil_quot_high z d k in
    let e = *ℤ-zero d in
    cancel-≤ d (pos 0) (ceil_quot z d) k (omega (arith, linear))

pub quotient_small : (m d : ℤ) → m ≤ℤ pos 65536 → pos 0 <ℤ d → ceil_quot (m *ℤ pos 16384) d ≤ℤ pos 1073741824
quotient_small m d h k =
    let most = mono_times (pos 1073741824) (pos 1) d (omega (arith, linear)) (omega (arith, linear)) in
    ceil_quot_best (m *ℤ pos 16384) d (pos 1073741824) k (omega (arith, ints))

pub quotient_narrows : (z z' d d' : ℤ) → pos 0 ≤ℤ z → z' ≤ℤ z → pos 0 <ℤ d → d ≤ℤ d' → ceil_quot z' d' ≤ℤ ceil_quot z d
quotient_narrows z z' d d' n h k l =
    let up = ceil_quot_high z d k in
    let wider = mono_times (ceil_quot z d) d d' (quotient_nonneg z d n k) l in
    ceil_quot_best z' d' (ceil_quot z d) (omega (arith, linear)) (omega (arith, linear))

pub ceil_euclid : (z d : ℤ) → pos 0 <ℤ d → neg_ℤ (int_div_euclid (neg_ℤ z) d) ≡ ceil_quot z d
unfolding ceil_quot
ceil_euclid z d h = ap neg_ℤ (floor_euclid (neg_ℤ z) d h)

-- what `Interval::new` answers at -a and a
accepted : (a : ℤ) → Within (pos 0) (pos 1073741824) a → interval_of (neg_ℤ a) a ≡ Some (from_to (neg_ℤ a) a)
unfolding interval_of in_span
accepted a w = grind (arith, ints)

pub made_around_zero : (a : ℤ) (o : Option Interval) (l h : ℤ) → l ≡ neg_ℤ a → h ≡ a → Within (pos 0) (pos 1073741824) a → option_map ends_of o ≡ interval_of l h → option_map ends_of o ≡ Some (from_to (neg_ℤ a) a)
made_around_zero a o l h el eh w made = made ∙ (λ i. interval_of (el i) (eh i)) ∙ accepted a w

-- the quotient that the code works out: of n, which is -(m × 16384), by e, which is d
module _ (m d q n e : ℤ) (wm : Within (pos 0) (pos 65536) m) (wd : Within (pos 1) (pos 65536) d) (en : n ≡ neg_ℤ (m *ℤ pos 16384)) (ee : e ≡ d) (made : q ≡ int_div_euclid n e) where
  pub rounded_up : neg_ℤ q ≡ ceil_quot (m *ℤ pos 16384) d
  rounded_up = ap neg_ℤ (made ∙ (λ i. int_div_euclid (en i) (ee i))) ∙ ceil_euclid (m *ℤ pos 16384) d (omega (arith, ints))

  pub rounded_small : Within (pos 0) (pos 1073741824) (neg_ℤ q)
  rounded_small =
      let positive : pos 0 <ℤ d = omega (arith, ints) in
      rw rounded_up (record { low = quotient_nonneg (m *ℤ pos 16384) d (omega (arith, ints)) positive; high = quotient_small m d wm.high positive })
