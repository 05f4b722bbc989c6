-- Narrower operands have narrower answers, and answers are intervals. Assumes nothing.
use Rattle.std.proofs.Common.{◌≡◌, ◌<◌, false, ◌⊎◌, ℤ, pos, ◌-ℤ◌, ◌*ℤ◌, nat_abs, ◌≤ℤ◌, ◌<ℤ◌, Some, Ok, sym, subst, ⊎_elim, arith}
use lib.IntN.{*ℤ_comm}
use lib.Signed.{le_z}
use borrow.Author.Differences.{ints}
use Rattle.std.specs.Int.{int_min, int_max}
use Rattle.std.proofs.lemmas.Int.{clamps}
use Rattle.std.proofs.lemmas.Bool.{and_left, and_right}
use Rattle.algebra.specs.Ends.{Ends, from_to, Ordered, Included}
use Rattle.algebra.specs.Order.{Within, floor_quot, ceil_quot}
use Rattle.algebra.proofs.Ring.{linear}
use Rattle.algebra.proofs.Order.{mono_times, times_above, times_below, product_within, floor_quot_mono, ceil_quot_mono, floor_quot_above, floor_quot_above_neg, floor_quot_best, floor_quot_best_neg, ceil_quot_below, ceil_quot_below_neg, ceil_quot_best, ceil_quot_best_neg}
use Rattle.grains.specs.Arithmetic.{in_span, times, least_of, greatest_of, least_product, greatest_product, product_of, difference_of, contains_zero, quotient_down, quotient_up, least_quotient, greatest_quotient, quotient_of, common_of}
use Rattle.grains.specs.Narrowing.{ProductNarrows, DifferenceNarrows, QuotientNarrows, CommonNarrows, IntervalOfFigures, OperationsStayIntervals}
use Rattle.grains.proofs.Sizes.{product_ends_ordered, quotient_ends_ordered}
use Rattle.grains.proofs.Span.{narrower, span_out, span_is, common_out, common_is, common_in, least_in, greatest_in, least_out, greatest_out, sides, divided, divides}

-- what holds of each figure of a' and each of b' holds of the ends of a and b, as they lie within
module _ (P : ℤ → ℤ → Type 0) (a b a' b' : Ends) (oa : Ordered a) (ob : Ordered b) (ia : Included a a') (ib : Included b b')
    (each : (x y : ℤ) → Within a'.low a'.high x → Within b'.low b'.high y → P x y) where
  a_low : Within a'.low a'.high a.low
  a_low = record { low = ia.from; high = omega (arith, linear) }

  a_high : Within a'.low a'.high a.high
  a_high = record { low = omega (arith, linear); high = ia.to }

  b_low : Within b'.low b'.high b.low
  b_low = record { low = ib.from; high = omega (arith, linear) }

  b_high : Within b'.low b'.high b.high
  b_high = record { low = omega (arith, linear); high = ib.to }

  at_ends : P a.low b.low × P a.low b.high × P a.high b.low × P a.high b.high
  at_ends = (each _ _ a_low b_low, each _ _ a_low b_high, each _ _ a_high b_low, each _ _ a_high b_high)

-- ---- products

-- the product of a figure of a and a figure of b lies between the least and the greatest product of ends
product_low : (a b : Ends) (x y : ℤ) → Within a.low a.high x → Within b.low b.high y → least_product a b ≤ℤ times x y
unfolding least_product least_of times
product_low a b x y p q = (product_within a.low a.high b.low b.high x y p q).low

product_high : (a b : Ends) (x y : ℤ) → Within a.low a.high x → Within b.low b.high y → times x y ≤ℤ greatest_product a b
unfolding greatest_product greatest_of times
product_high a b x y p q = (product_within a.low a.high b.low b.high x y p q).high

least_product_narrows : (a b a' b' : Ends) → Ordered a → Ordered b → Included a a' → Included b b' → least_product a' b' ≤ℤ least_product a b
unfolding least_product
least_product_narrows a b a' b' oa ob ia ib =
    let l = at_ends (λ x y. least_product a' b' ≤ℤ times x y) a b a' b' oa ob ia ib (product_low a' b') in
    least_in (least_product a' b') _ _ _ _ l.0 l.1 l.2 l.3

greatest_product_narrows : (a b a' b' : Ends) → Ordered a → Ordered b → Included a a' → Included b b' → greatest_product a b ≤ℤ greatest_product a' b'
unfolding greatest_product
greatest_product_narrows a b a' b' oa ob ia ib =
    let h = at_ends (λ x y. times x y ≤ℤ greatest_product a' b') a b a' b' oa ob ia ib (product_high a' b') in
    greatest_in (greatest_product a' b') _ _ _ _ h.0 h.1 h.2 h.3

grains : pos 0 <ℤ pos 16384
grains = omega (arith, linear)

pub product_narrows : ProductNarrows
unfolding product_of
product_narrows a b a' b' r' oa ob ia ib e =
    narrower _ _ _ _ r'
    (floor_quot_mono (least_product a' b') (least_product a b) (pos 16384) grains (least_product_narrows a b a' b' oa ob ia ib))
    (ceil_quot_mono (greatest_product a b) (greatest_product a' b') (pos 16384) grains (greatest_product_narrows a b a' b' oa ob ia ib))
    e

-- ---- differences

pub difference_narrows : DifferenceNarrows
unfolding difference_of
difference_narrows a b a' b' r' oa ob ia ib e =
    let l : (a'.low -ℤ b'.high) ≤ℤ (a.low -ℤ b.high) = omega (arith, linear) in
    let h : (a.high -ℤ b.low) ≤ℤ (a'.high -ℤ b'.low) = omega (arith, linear) in
    narrower _ _ _ _ r' l h e

-- ---- quotients

-- the quotient of a figure of a by a figure of b lies between the least and the greatest quotient of ends
module _ (a b : Ends) (x y : ℤ) (p : Within a.low a.high x) (q : Within b.low b.high y) where
  smaller : (a.low *ℤ pos 16384) ≤ℤ (x *ℤ pos 16384)
  smaller = mono_times (pos 16384) a.low x (omega (arith, linear)) p.low

  larger : (x *ℤ pos 16384) ≤ℤ (a.high *ℤ pos 16384)
  larger = mono_times (pos 16384) x a.high (omega (arith, linear)) p.high

  quotient_low : (pos 0 <ℤ b.low) ⊎ (b.high <ℤ pos 0) → least_quotient a b ≤ℤ quotient_down x y
  unfolding least_quotient quotient_down times
  quotient_low u =
      let m = least_quotient a b in
      let n = x *ℤ pos 16384 in
      let l = a.low *ℤ pos 16384 in
      let h = a.high *ℤ pos 16384 in
      let o = least_out (floor_quot l b.low) (floor_quot l b.high) (floor_quot h b.low) (floor_quot h b.high) in
      ⊎_elim
      (λ k. let c = floor_quot_above l b.low m k o.first in
      let d = floor_quot_above l b.high m (omega (arith, linear)) o.second in
      let t = times_below l m b.low b.high y q (omega (arith, linear, *ℤ_comm m b.low)) (omega (arith, linear, *ℤ_comm m b.high)) in
      floor_quot_best n y m (omega (arith, linear)) (omega (arith, linear, smaller, *ℤ_comm m y)))
      (λ k. let c = floor_quot_above_neg h b.low m (omega (arith, linear)) o.third in
      let d = floor_quot_above_neg h b.high m k o.fourth in
      let t = times_above h m b.low b.high y q (omega (arith, linear, *ℤ_comm m b.low)) (omega (arith, linear, *ℤ_comm m b.high)) in
      floor_quot_best_neg n y m (omega (arith, linear)) (omega (arith, linear, larger, *ℤ_comm m y)))
      u

  quotient_high : (pos 0 <ℤ b.low) ⊎ (b.high <ℤ pos 0) → quotient_up x y ≤ℤ greatest_quotient a b
  unfolding greatest_quotient quotient_up times
  quotient_high u =
      let m = greatest_quotient a b in
      let n = x *ℤ pos 16384 in
      let l = a.low *ℤ pos 16384 in
      let h = a.high *ℤ pos 16384 in
      let o = greatest_out (ceil_quot l b.low) (ceil_quot l b.high) (ceil_quot h b.low) (ceil_quot h b.high) in
      ⊎_elim
      (λ k. let c = ceil_quot_below h b.low m k o.third in
      let d = ceil_quot_below h b.high m (omega (arith, linear)) o.fourth in
      let t = times_above h m b.low b.high y q (omega (arith, linear, *ℤ_comm m b.low)) (omega (arith, linear, *ℤ_comm m b.high)) in
      ceil_quot_best n y m (omega (arith, linear)) (omega (arith, linear, larger, *ℤ_comm m y)))
      (λ k. let c = ceil_quot_below_neg l b.low m (omega (arith, linear)) o.first in
      let d = ceil_quot_below_neg l b.high m k o.second in
      let t = times_below l m b.low b.high y q (omega (arith, linear, *ℤ_comm m b.low)) (omega (arith, linear, *ℤ_comm m b.high)) in
      ceil_quot_best_neg n y m (omega (arith, linear)) (omega (arith, linear, smaller, *ℤ_comm m y)))
      u

still_apart : (b b' : Ends) → Included b b' → (pos 0 <ℤ b'.low) ⊎ (b'.high <ℤ pos 0) → contains_zero b ≡ false
unfolding contains_zero
still_apart b b' i u =
    ⊎_elim
    (λ k. and_left (le_z b.low (pos 0)) (le_z (pos 0) b.high) (sym (omega (arith, ints))))
    (λ k. and_right (le_z b.low (pos 0)) (le_z (pos 0) b.high) (sym (omega (arith, ints))))
    u

module _ (a b a' b' : Ends) (oa : Ordered a) (ob : Ordered b) (ia : Included a a') (ib : Included b b') (u : (pos 0 <ℤ b'.low) ⊎ (b'.high <ℤ pos 0)) where
  least_quotient_narrows : least_quotient a' b' ≤ℤ least_quotient a b
  unfolding least_quotient
  least_quotient_narrows =
      let l = at_ends (λ x y. least_quotient a' b' ≤ℤ quotient_down x y) a b a' b' oa ob ia ib (λ x y p q. quotient_low a' b' x y p q u) in
      least_in (least_quotient a' b') _ _ _ _ l.0 l.1 l.2 l.3

  greatest_quotient_narrows : greatest_quotient a b ≤ℤ greatest_quotient a' b'
  unfolding greatest_quotient
  greatest_quotient_narrows =
      let h = at_ends (λ x y. quotient_up x y ≤ℤ greatest_quotient a' b') a b a' b' oa ob ia ib (λ x y p q. quotient_high a' b' x y p q u) in
      greatest_in (greatest_quotient a' b') _ _ _ _ h.0 h.1 h.2 h.3

pub quotient_narrows : QuotientNarrows
quotient_narrows a b a' b' r' oa ob ia ib e =
    let v = divided a' b' r' e in
    let o : Ordered b' = omega (arith, linear) in
    let u = sides b' o v.apart in
    let n = narrower (least_quotient a b) (greatest_quotient a b) (least_quotient a' b') (greatest_quotient a' b') r'
    (least_quotient_narrows a b a' b' oa ob ia ib u) (greatest_quotient_narrows a b a' b' oa ob ia ib u) v.spans in
    (n.0, divides a b n.0 (record { apart = still_apart b b' ib u; spans = n.1 }), n.2)

-- ---- common parts

pub common_narrows : CommonNarrows
common_narrows a b a' b' r ia ib e =
    let o = common_out a b r e in
    let l : int_max a'.low b'.low ≤ℤ int_max a.low b.low = omega (arith, ints, clamps) in
    let h : int_min a.high b.high ≤ℤ int_min a'.high b'.high = omega (arith, ints, clamps) in
    let i : Included (from_to (int_max a.low b.low) (int_min a.high b.high)) (from_to (int_max a'.low b'.low) (int_min a'.high b'.high)) = record { from = l; to = h } in
    (from_to (int_max a'.low b'.low) (int_min a'.high b'.high), common_in a' b' (omega (arith, ints)), rw (common_is a b r e) at i)

-- ---- answers are intervals

in_order : (l h : ℤ) (r : Ends) → l ≤ℤ h → in_span l h ≡ Ok r → IntervalOfFigures r
in_order l h r o e =
    let s = span_out l h r e in
    let i : IntervalOfFigures (from_to l h) = (o, record { above = s.above; below = omega (arith, ints) }, record { above = omega (arith, ints); below = s.below }) in
    subst IntervalOfFigures (span_is l h r e) i

product_stays : (x y r : Ends) → product_of x y ≡ Ok r → IntervalOfFigures r
unfolding product_of
product_stays x y r e = in_order _ _ r (product_ends_ordered x y) e

difference_stays : (x y r : Ends) → Ordered x → Ordered y → difference_of x y ≡ Ok r → IntervalOfFigures r
unfolding difference_of
difference_stays x y r ox oy e =
    let o : (x.low -ℤ y.high) ≤ℤ (x.high -ℤ y.low) = omega (arith, linear) in
    in_order (x.low -ℤ y.high) (x.high -ℤ y.low) r o e

quotient_stays : (x y r : Ends) → Ordered y → quotient_of x y ≡ Ok r → IntervalOfFigures r
quotient_stays x y r oy e =
    let v = divided x y r e in
    let n : 0 < nat_abs y.low = ⊎_elim (λ k. omega (arith, ints)) (λ k. omega (arith, ints)) (sides y oy v.apart) in
    in_order (least_quotient x y) (greatest_quotient x y) r (quotient_ends_ordered x y n) v.spans

common_stays : (x y r : Ends) → common_of x y ≡ Some r → Ordered r
common_stays x y r e =
    let o : Ordered (from_to (int_max x.low y.low) (int_min x.high y.high)) = common_out x y r e in
    subst Ordered (common_is x y r e) o

pub operations_stay : OperationsStayIntervals
operations_stay x y r ox oy = (product_stays x y r, difference_stays x y r ox oy, quotient_stays x y r oy, common_stays x y r)
