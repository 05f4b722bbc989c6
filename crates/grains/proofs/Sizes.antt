-- Sizes and orders of what the operations meet: products fit, and a low end is at most its high end. Assumes nothing.
use Rattle.std.proofs.Common.{◌≡◌, ℕ, ◌*◌, ◌^◌, ◌<◌, ◌≤◌, Bool, false, ℤ, pos, negsuc, ◌*ℤ◌, neg_ℤ, nat_abs, ◌≤ℤ◌, ◌<ℤ◌, arith, to_z-of_z, w64, to_z, of_z}
use lib.Signed.{mag}
use borrow.Author.Differences.{ints}
use Rattle.std.proofs.lemmas.Nat.{mul-le}
use Rattle.std.proofs.lemmas.Int.{clamps}
use Rattle.algebra.specs.Ends.{Ends}
use Rattle.algebra.specs.Order.{floor_quot, ceil_quot}
use Rattle.algebra.proofs.Ring.{linear, neg_ℤ-*ℤ}
use Rattle.algebra.proofs.Order.{floor_quot_low, floor_quot_low_neg, ceil_quot_high, ceil_quot_high_neg, cancel-≤}
use Rattle.grains.specs.declared.interval.Interval.{Interval}
use Rattle.grains.specs.Arithmetic.{Figure, ends_of, times, least_of, greatest_of, least_product, greatest_product, contains_zero, quotient_down, quotient_up, least_quotient, greatest_quotient}

-- a number that went to its 64 bits and back
abbrev pub back : ℤ → ℤ
back z = to_z w64 (of_z w64 z)

pub back_ok : (z : ℤ) → mag z < 2 ^ 63 → back z ≡ z
back_ok z h = to_z-of_z {w = w64} (record { sfits = h })

abs_product : (a b : ℤ) → nat_abs (a *ℤ b) ≡ nat_abs a * nat_abs b
abs_product (pos a) (pos b) = omega arith
abs_product (pos a) (negsuc b) = omega (arith, ints)
abs_product (negsuc a) (pos b) = omega (arith, ints)
abs_product (negsuc a) (negsuc b) = omega arith

figure_size : (z : ℤ) → Figure z → nat_abs z ≤ 2 ^ 31
figure_size z f = omega (arith, ints)

pub times_small : (a b : ℤ) → Figure a → Figure b → nat_abs (a *ℤ b) ≤ 2 ^ 62
times_small a b p q = omega (arith, abs_product a b, mul-le (nat_abs a) (nat_abs b) (2 ^ 31) (2 ^ 31) (figure_size a p) (figure_size b q))

pub low_figure : (x : Interval) → Figure x.low
low_figure x = record { above = omega (arith, ints); below = omega (arith, ints) }

pub high_figure : (x : Interval) → Figure x.high
high_figure x = record { above = omega (arith, ints); below = omega (arith, ints) }

least_small : (a b c d : ℤ) (m : ℕ) → nat_abs a ≤ m → nat_abs b ≤ m → nat_abs c ≤ m → nat_abs d ≤ m → nat_abs (least_of a b c d) ≤ m
unfolding least_of
least_small a b c d m p q r s = grind arith

greatest_small : (a b c d : ℤ) (m : ℕ) → nat_abs a ≤ m → nat_abs b ≤ m → nat_abs c ≤ m → nat_abs d ≤ m → nat_abs (greatest_of a b c d) ≤ m
unfolding greatest_of
greatest_small a b c d m p q r s = grind arith

least_first : (a b c d : ℤ) → least_of a b c d ≤ℤ a
unfolding least_of
least_first a b c d = omega (arith, ints, clamps)

greatest_first : (a b c d : ℤ) → a ≤ℤ greatest_of a b c d
unfolding greatest_of
greatest_first a b c d = omega (arith, ints, clamps)

fits : (z : ℤ) → nat_abs z ≤ 2 ^ 62 → nat_abs (back z) < 2 ^ 63
fits z h = omega (arith, ints)

pub least_product_small : (x y : Interval) (r : ℤ) → r ≡ least_product (ends_of x) (ends_of y) → nat_abs (back r) < 2 ^ 63
unfolding least_product times
least_product_small x y r e =
    let s = least_small (x.low *ℤ y.low) (x.low *ℤ y.high) (x.high *ℤ y.low) (x.high *ℤ y.high) (2 ^ 62)
    (times_small _ _ (low_figure x) (low_figure y)) (times_small _ _ (low_figure x) (high_figure y)) (times_small _ _ (high_figure x) (low_figure y)) (times_small _ _ (high_figure x) (high_figure y)) in
    fits r (rw e s)

pub greatest_product_small : (x y : Interval) (r : ℤ) → r ≡ greatest_product (ends_of x) (ends_of y) → nat_abs (back r) < 2 ^ 63
unfolding greatest_product times
greatest_product_small x y r e =
    let s = greatest_small (x.low *ℤ y.low) (x.low *ℤ y.high) (x.high *ℤ y.low) (x.high *ℤ y.high) (2 ^ 62)
    (times_small _ _ (low_figure x) (low_figure y)) (times_small _ _ (low_figure x) (high_figure y)) (times_small _ _ (high_figure x) (low_figure y)) (times_small _ _ (high_figure x) (high_figure y)) in
    fits r (rw e s)

le_trans : (a b c : ℤ) → a ≤ℤ b → b ≤ℤ c → a ≤ℤ c
le_trans a b c p q = omega (arith, ints)

-- rounding outward keeps the order, by a divisor above 0 and, of one number, by any divisor but 0
floor_ceil : (a b d : ℤ) → pos 0 <ℤ d → a ≤ℤ b → floor_quot a d ≤ℤ ceil_quot b d
floor_ceil a b d p h =
    let l = floor_quot_low a d p in
    let u = ceil_quot_high b d p in
    cancel-≤ d (floor_quot a d) (ceil_quot b d) p (omega (arith, linear))

floor_ceil_negative : (a d : ℤ) → d <ℤ pos 0 → floor_quot a d ≤ℤ ceil_quot a d
floor_ceil_negative a d p =
    let l = floor_quot_low_neg a d p in
    let u = ceil_quot_high_neg a d p in
    turned (floor_quot a d) (ceil_quot a d) d p (omega (arith, linear))
  where
    turned : (x y e : ℤ) → e <ℤ pos 0 → (e *ℤ y) ≤ℤ (e *ℤ x) → x ≤ℤ y
    turned x y e q h =
        let s = neg_ℤ-*ℤ e x in
        let t = neg_ℤ-*ℤ e y in
        cancel-≤ (neg_ℤ e) x y (omega (arith, linear)) (omega (arith, linear))

floor_ceil_at : (a d : ℤ) → 0 < nat_abs d → floor_quot a d ≤ℤ ceil_quot a d
floor_ceil_at a (pos d) p = floor_ceil a a (pos d) (omega (arith, ints)) (omega (arith, ints))
floor_ceil_at a (negsuc d) p = floor_ceil_negative a (negsuc d) (omega (arith, ints))

-- the ends of a product are in order
pub product_ends_ordered : (x y : Ends) → floor_quot (least_product x y) (pos 16384) ≤ℤ ceil_quot (greatest_product x y) (pos 16384)
unfolding least_product greatest_product
product_ends_ordered x y =
    let a = times x.low y.low in
    floor_ceil (least_product x y) (greatest_product x y) (pos 16384) (omega (arith, ints)) (le_trans _ a _ (least_first _ _ _ _) (greatest_first _ _ _ _))

-- the same as a step of the code has them
pub products_ordered : (x y : Ends) (l m f g : ℤ) → mag l < 2 ^ 63 → mag m < 2 ^ 63 → mag f < 2 ^ 63 → mag g < 2 ^ 63 → l ≡ least_product x y → m ≡ greatest_product x y → f ≡ floor_quot (back l) (pos 16384) → g ≡ ceil_quot (back m) (pos 16384) → back f ≤ℤ back g
products_ordered x y l m f g pl pm pf pg el em ef eg =
    rw (back_ok f pf, back_ok g pg, ef, eg, back_ok l pl, back_ok m pm, el, em) (product_ends_ordered x y)

pub low_apart : (x : Interval) (r : Bool) → r ≡ contains_zero (ends_of x) → r ≡ false → 0 < nat_abs x.low
unfolding contains_zero
low_apart x r p q = grind (arith, ints)

pub high_apart : (x : Interval) (r : Bool) → r ≡ contains_zero (ends_of x) → r ≡ false → 0 < nat_abs x.high
unfolding contains_zero
high_apart x r p q = grind (arith, ints)

-- the ends of a quotient are in order
pub quotient_ends_ordered : (x y : Ends) → 0 < nat_abs y.low → least_quotient x y ≤ℤ greatest_quotient x y
unfolding least_quotient greatest_quotient quotient_down quotient_up
quotient_ends_ordered x y h =
    let n = times x.low (pos 16384) in
    le_trans _ (quotient_down x.low y.low) _ (least_first _ _ _ _) (le_trans _ (quotient_up x.low y.low) _ (floor_ceil_at n y.low h) (greatest_first _ _ _ _))

-- the same as a step of the code has them
pub quotients_ordered : (x y : Ends) (l m : ℤ) → mag l < 2 ^ 63 → mag m < 2 ^ 63 → 0 < nat_abs y.low → l ≡ least_quotient x y → m ≡ greatest_quotient x y → back l ≤ℤ back m
quotients_ordered x y l m pl pm h el em = rw (back_ok l pl, back_ok m pm, el, em) (quotient_ends_ordered x y h)
