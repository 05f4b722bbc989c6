-- The answers contain what the operations make of points. Assumes nothing.
use Rattle.std.proofs.Common.{◌≡◌, ℕ, zero, suc, ◌*◌, ◌<◌, false, ◌⊎◌, ℤ, pos, negsuc, ◌-ℤ◌, ◌*ℤ◌, neg_ℤ, nat_abs, ◌≤ℤ◌, ◌<ℤ◌, Ok, refl, ⊎_elim, arith}
use lib.IntN.{*ℤ_comm, *ℤ-zero}
use Rattle.std.specs.Int.{int_min, int_max}
use Rattle.std.proofs.lemmas.Int.{by_lt_z, clamps}
use Rattle.algebra.specs.Ends.{Ends, from_to}
use Rattle.algebra.specs.Order.{floor_quot, ceil_quot}
use Rattle.algebra.specs.Ring.{◌⊖◌, ◌⊗◌, minus, lit, ◌⩵◌}
use Rattle.algebra.proofs.Ring.{linear, solve, neg_ℤ-*ℤ}
use Rattle.algebra.proofs.Order.{product_nonneg, product_positive, times_mono, mono_times, cancel-≤, times_above, times_below, product_above, product_below, floor_quot_low, ceil_quot_high, floor_quot_above, floor_quot_above_neg, ceil_quot_below, ceil_quot_below_neg}
use Rattle.grains.specs.Arithmetic.{in_span, times, least_product, greatest_product, product_of, difference_of, contains_zero, quotient_down, quotient_up, least_quotient, greatest_quotient}
use Rattle.grains.specs.Points.{Lies, sign, ProductHolds, DifferenceHolds, DivisorApart, QuotientHolds, CommonHolds}
use Rattle.grains.proofs.Span.{span_is, common_in, least_out, greatest_out, Below, Above, sides, divided}

-- to lie in the ends that `in_span` has accepted
lies_in : (a : ℤ) (t : ℕ) (l h : ℤ) (r : Ends) → in_span l h ≡ Ok r → (l *ℤ pos t) ≤ℤ (pos 16384 *ℤ a) → (pos 16384 *ℤ a) ≤ℤ (h *ℤ pos t) → Lies a t r
lies_in a t l h r e p q = let k : Lies a t (from_to l h) = record { from = p; to = q } in rw (span_is l h r e) at k

-- ---- products

module _ (g xl xh yl yh t u a b : ℤ) (some : pos 0 <ℤ g) (tn : pos 0 ≤ℤ t) (un : pos 0 ≤ℤ u)
    (p : (xl *ℤ t) ≤ℤ (g *ℤ a)) (q : (g *ℤ a) ≤ℤ (xh *ℤ t)) (r : (yl *ℤ u) ≤ℤ (g *ℤ b)) (s : (g *ℤ b) ≤ℤ (yh *ℤ u)) where
  same : (x y : ℤ) → (x *ℤ y) *ℤ (t *ℤ u) ≡ (x *ℤ t) *ℤ (y *ℤ u)
  same x y = solve 4 (λ x y t u. (x ⊗ y) ⊗ (t ⊗ u) ⩵ (x ⊗ t) ⊗ (y ⊗ u)) refl x y t u

  up_to : (m x y : ℤ) → m ≤ℤ (x *ℤ y) → (m *ℤ (t *ℤ u)) ≤ℤ ((x *ℤ t) *ℤ (y *ℤ u))
  up_to m x y h = rw (← same x y) (mono_times (t *ℤ u) m (x *ℤ y) (product_nonneg t u tn un) h)

  down_to : (m x y : ℤ) → (x *ℤ y) ≤ℤ m → ((x *ℤ t) *ℤ (y *ℤ u)) ≤ℤ (m *ℤ (t *ℤ u))
  down_to m x y h = rw (← same x y) (mono_times (t *ℤ u) (x *ℤ y) m (product_nonneg t u tn un) h)

  product_from : (m f : ℤ) → Below m (xl *ℤ yl) (xl *ℤ yh) (xh *ℤ yl) (xh *ℤ yh) → (g *ℤ f) ≤ℤ m → (f *ℤ (t *ℤ u)) ≤ℤ (g *ℤ (a *ℤ b))
  product_from m f o h =
      let c = product_above (m *ℤ (t *ℤ u)) (xl *ℤ t) (xh *ℤ t) (yl *ℤ u) (yh *ℤ u) (g *ℤ a) (g *ℤ b) (record { low = p; high = q }) (record { low = r; high = s })
      (up_to m xl yl o.first) (up_to m xl yh o.second) (up_to m xh yl o.third) (up_to m xh yh o.fourth) in
      let d = mono_times (t *ℤ u) (g *ℤ f) m (product_nonneg t u tn un) h in
      let e = solve 4 (λ f g t u. (g ⊗ f) ⊗ (t ⊗ u) ⩵ g ⊗ (f ⊗ (t ⊗ u))) refl f g t u in
      let i = solve 3 (λ g a b. (g ⊗ a) ⊗ (g ⊗ b) ⩵ g ⊗ (g ⊗ (a ⊗ b))) refl g a b in
      cancel-≤ g (f *ℤ (t *ℤ u)) (g *ℤ (a *ℤ b)) some (omega (arith, linear))

  product_to : (m f : ℤ) → Above m (xl *ℤ yl) (xl *ℤ yh) (xh *ℤ yl) (xh *ℤ yh) → m ≤ℤ (g *ℤ f) → (g *ℤ (a *ℤ b)) ≤ℤ (f *ℤ (t *ℤ u))
  product_to m f o h =
      let c = product_below (m *ℤ (t *ℤ u)) (xl *ℤ t) (xh *ℤ t) (yl *ℤ u) (yh *ℤ u) (g *ℤ a) (g *ℤ b) (record { low = p; high = q }) (record { low = r; high = s })
      (down_to m xl yl o.first) (down_to m xl yh o.second) (down_to m xh yl o.third) (down_to m xh yh o.fourth) in
      let d = mono_times (t *ℤ u) m (g *ℤ f) (product_nonneg t u tn un) h in
      let e = solve 4 (λ f g t u. (g ⊗ f) ⊗ (t ⊗ u) ⩵ g ⊗ (f ⊗ (t ⊗ u))) refl f g t u in
      let i = solve 3 (λ g a b. (g ⊗ a) ⊗ (g ⊗ b) ⩵ g ⊗ (g ⊗ (a ⊗ b))) refl g a b in
      cancel-≤ g (g *ℤ (a *ℤ b)) (f *ℤ (t *ℤ u)) some (omega (arith, linear))

natural : (n : ℕ) → pos 0 ≤ℤ pos n
natural n = omega (arith, linear)

grains : pos 0 <ℤ pos 16384
grains = omega (arith, linear)

pub product_holds : ProductHolds
unfolding product_of least_product greatest_product times
product_holds a b t u x y r p q e =
    lies_in (a *ℤ b) (t * u) (floor_quot (least_product x y) (pos 16384)) (ceil_quot (greatest_product x y) (pos 16384)) r e
    (product_from (pos 16384) x.low x.high y.low y.high (pos t) (pos u) a b grains (natural t) (natural u) p.from p.to q.from q.to
    (least_product x y) (floor_quot (least_product x y) (pos 16384)) (least_out _ _ _ _) (floor_quot_low (least_product x y) (pos 16384) grains))
    (product_to (pos 16384) x.low x.high y.low y.high (pos t) (pos u) a b grains (natural t) (natural u) p.from p.to q.from q.to
    (greatest_product x y) (ceil_quot (greatest_product x y) (pos 16384)) (greatest_out _ _ _ _) (ceil_quot_high (greatest_product x y) (pos 16384) grains))

-- ---- differences

pub difference_holds : DifferenceHolds
unfolding difference_of
difference_holds a b t u x y r p q e =
    let g = pos 16384 in
    let al = mono_times (pos u) (x.low *ℤ pos t) (g *ℤ a) (natural u) p.from in
    let ah = mono_times (pos u) (g *ℤ a) (x.high *ℤ pos t) (natural u) p.to in
    let bl = mono_times (pos t) (y.low *ℤ pos u) (g *ℤ b) (natural t) q.from in
    let bh = mono_times (pos t) (g *ℤ b) (y.high *ℤ pos u) (natural t) q.to in
    let i = solve 5 (λ g a b t u. g ⊗ (a ⊗ u ⊖ b ⊗ t) ⩵ (g ⊗ a) ⊗ u ⊖ (g ⊗ b) ⊗ t) refl g a b (pos t) (pos u) in
    let j = solve 4 (λ m n t u. (m ⊖ n) ⊗ (t ⊗ u) ⩵ (m ⊗ t) ⊗ u ⊖ (n ⊗ u) ⊗ t) refl x.low y.high (pos t) (pos u) in
    let k = solve 4 (λ m n t u. (m ⊖ n) ⊗ (t ⊗ u) ⩵ (m ⊗ t) ⊗ u ⊖ (n ⊗ u) ⊗ t) refl x.high y.low (pos t) (pos u) in
    let l : ((x.low -ℤ y.high) *ℤ (pos t *ℤ pos u)) ≤ℤ (g *ℤ (a *ℤ pos u -ℤ b *ℤ pos t)) = omega (arith, linear) in
    let h : (g *ℤ (a *ℤ pos u -ℤ b *ℤ pos t)) ≤ℤ ((x.high -ℤ y.low) *ℤ (pos t *ℤ pos u)) = omega (arith, linear) in
    lies_in (a *ℤ pos u -ℤ b *ℤ pos t) (t * u) (x.low -ℤ y.high) (x.high -ℤ y.low) r e l h

-- ---- quotients

-- a point b over u of [yl, yh], with u above 0
module _ (g yl yh u b : ℤ) (some : pos 0 <ℤ g) (us : pos 0 <ℤ u) (r : (yl *ℤ u) ≤ℤ (g *ℤ b)) (s : (g *ℤ b) ≤ℤ (yh *ℤ u)) where
  in_order : yl ≤ℤ yh
  in_order = cancel-≤ u yl yh us (omega (arith, linear, *ℤ_comm u yl, *ℤ_comm u yh))

  -- it has the sign of the divisor's ends
  above : pos 0 <ℤ yl → pos 0 <ℤ b
  above h = by_lt_z (pos 0) b (λ l. l) (λ l.
      let c = product_positive yl u h us in
      let d = times_mono g b (pos 0) (omega (arith, linear)) l in
      absurd (omega (arith, linear, *ℤ-zero g)))

  below : yh <ℤ pos 0 → b <ℤ pos 0
  below h = by_lt_z b (pos 0) (λ l. l) (λ l.
      let c = product_positive (neg_ℤ yh) u (omega (arith, linear)) us in
      let d = times_mono g (pos 0) b (omega (arith, linear)) l in
      absurd (omega (arith, linear, *ℤ-zero g, neg_ℤ-*ℤ yh u)))

  -- what is known of z m at both ends of the divisor is known at the point
  module _ (t a v m : ℤ) (tn : pos 0 ≤ℤ t) where
    point_high : (yl *ℤ m) ≤ℤ (v *ℤ g) → (yh *ℤ m) ≤ℤ (v *ℤ g) → (v *ℤ t) ≤ℤ (g *ℤ a) → (m *ℤ (t *ℤ b)) ≤ℤ (g *ℤ (a *ℤ u))
    point_high c d e =
        let c' = times_mono u (yl *ℤ m) (v *ℤ g) (omega (arith, linear)) c in
        let d' = times_mono u (yh *ℤ m) (v *ℤ g) (omega (arith, linear)) d in
        let ce = solve 3 (λ u y m. u ⊗ (y ⊗ m) ⩵ m ⊗ (y ⊗ u)) refl u yl m in
        let de = solve 3 (λ u y m. u ⊗ (y ⊗ m) ⩵ m ⊗ (y ⊗ u)) refl u yh m in
        let k = times_below (u *ℤ (v *ℤ g)) m (yl *ℤ u) (yh *ℤ u) (g *ℤ b) (record { low = r; high = s }) (omega (arith, linear)) (omega (arith, linear)) in
        let k' = times_mono t (m *ℤ (g *ℤ b)) (u *ℤ (v *ℤ g)) tn k in
        let e' = times_mono (g *ℤ u) (v *ℤ t) (g *ℤ a) (product_nonneg g u (omega (arith, linear)) (omega (arith, linear))) e in
        let i = solve 4 (λ t m g b. t ⊗ (m ⊗ (g ⊗ b)) ⩵ g ⊗ (m ⊗ (t ⊗ b))) refl t m g b in
        let j = solve 4 (λ t u v g. t ⊗ (u ⊗ (v ⊗ g)) ⩵ (g ⊗ u) ⊗ (v ⊗ t)) refl t u v g in
        let l = solve 3 (λ g u a. (g ⊗ u) ⊗ (g ⊗ a) ⩵ g ⊗ (g ⊗ (a ⊗ u))) refl g u a in
        cancel-≤ g (m *ℤ (t *ℤ b)) (g *ℤ (a *ℤ u)) some (omega (arith, linear))

    point_low : (v *ℤ g) ≤ℤ (yl *ℤ m) → (v *ℤ g) ≤ℤ (yh *ℤ m) → (g *ℤ a) ≤ℤ (v *ℤ t) → (g *ℤ (a *ℤ u)) ≤ℤ (m *ℤ (t *ℤ b))
    point_low c d e =
        let c' = times_mono u (v *ℤ g) (yl *ℤ m) (omega (arith, linear)) c in
        let d' = times_mono u (v *ℤ g) (yh *ℤ m) (omega (arith, linear)) d in
        let ce = solve 3 (λ u y m. u ⊗ (y ⊗ m) ⩵ m ⊗ (y ⊗ u)) refl u yl m in
        let de = solve 3 (λ u y m. u ⊗ (y ⊗ m) ⩵ m ⊗ (y ⊗ u)) refl u yh m in
        let k = times_above (u *ℤ (v *ℤ g)) m (yl *ℤ u) (yh *ℤ u) (g *ℤ b) (record { low = r; high = s }) (omega (arith, linear)) (omega (arith, linear)) in
        let k' = times_mono t (u *ℤ (v *ℤ g)) (m *ℤ (g *ℤ b)) tn k in
        let e' = times_mono (g *ℤ u) (g *ℤ a) (v *ℤ t) (product_nonneg g u (omega (arith, linear)) (omega (arith, linear))) e in
        let i = solve 4 (λ t m g b. t ⊗ (m ⊗ (g ⊗ b)) ⩵ g ⊗ (m ⊗ (t ⊗ b))) refl t m g b in
        let j = solve 4 (λ t u v g. t ⊗ (u ⊗ (v ⊗ g)) ⩵ (g ⊗ u) ⊗ (v ⊗ t)) refl t u v g in
        let l = solve 3 (λ g u a. (g ⊗ u) ⊗ (g ⊗ a) ⩵ g ⊗ (g ⊗ (a ⊗ u))) refl g u a in
        cancel-≤ g (g *ℤ (a *ℤ u)) (m *ℤ (t *ℤ b)) some (omega (arith, linear))

positive : (u : ℕ) → 0 < u → pos 0 <ℤ pos u
positive u h = omega (arith, linear)

point_sides : (b : ℤ) (u : ℕ) (y : Ends) → 0 < u → Lies b u y → contains_zero y ≡ false → (pos 0 <ℤ y.low) ⊎ (y.high <ℤ pos 0)
point_sides b u y h q z = sides y (in_order (pos 16384) y.low y.high (pos u) b grains (positive u h) q.from q.to) z

pub divisor_apart : DivisorApart
divisor_apart b u y h q z e =
    ⊎_elim
    (λ k. let n = above (pos 16384) y.low y.high (pos u) b grains (positive u h) q.from q.to k in omega (arith, linear))
    (λ k. let n = below (pos 16384) y.low y.high (pos u) b grains (positive u h) q.from q.to k in omega (arith, linear))
    (point_sides b u y h q z)

-- the bounds at b, as bounds at the size of b, by the sign of b
abbrev Bounds : ℤ → ℤ → ℕ → ℕ → ℤ → ℤ → Type 0
Bounds a b t u l h = ((l *ℤ pos (t * nat_abs b)) ≤ℤ (pos 16384 *ℤ (sign b *ℤ a *ℤ pos u))) × ((pos 16384 *ℤ (sign b *ℤ a *ℤ pos u)) ≤ℤ (h *ℤ pos (t * nat_abs b)))

at_above : (a b : ℤ) (t u : ℕ) (l h : ℤ) → pos 0 <ℤ b → (l *ℤ (pos t *ℤ b)) ≤ℤ (pos 16384 *ℤ (a *ℤ pos u)) → (pos 16384 *ℤ (a *ℤ pos u)) ≤ℤ (h *ℤ (pos t *ℤ b)) → Bounds a b t u l h
at_above a (pos zero) t u l h k p q = absurd (omega (arith, linear))
at_above a (pos (suc n)) t u l h k p q =
    let e = solve 3 (λ g a u. g ⊗ (lit (pos 1) ⊗ a ⊗ u) ⩵ g ⊗ (a ⊗ u)) refl (pos 16384) a (pos u) in
    (rw e p, rw e q)
at_above a (negsuc n) t u l h k p q = absurd (omega (arith, linear))

at_below : (a b : ℤ) (t u : ℕ) (l h : ℤ) → b <ℤ pos 0 → (pos 16384 *ℤ (a *ℤ pos u)) ≤ℤ (l *ℤ (pos t *ℤ b)) → (h *ℤ (pos t *ℤ b)) ≤ℤ (pos 16384 *ℤ (a *ℤ pos u)) → Bounds a b t u l h
at_below a (pos n) t u l h k p q = absurd (omega (arith, linear))
at_below a (negsuc n) t u l h k p q =
    let e = solve 3 (λ g a u. g ⊗ (lit (negsuc 0) ⊗ a ⊗ u) ⩵ minus (g ⊗ (a ⊗ u))) refl (pos 16384) a (pos u) in
    let i = solve 3 (λ l t b. l ⊗ (t ⊗ minus b) ⩵ minus (l ⊗ (t ⊗ b))) refl l (pos t) (negsuc n) in
    let j = solve 3 (λ l t b. l ⊗ (t ⊗ minus b) ⩵ minus (l ⊗ (t ⊗ b))) refl h (pos t) (negsuc n) in
    (omega (arith, linear), omega (arith, linear))

pub quotient_holds : QuotientHolds
unfolding least_quotient greatest_quotient quotient_down quotient_up times
quotient_holds a b t u x y r h p q e =
    let v = divided x y r e in
    let g = pos 16384 in
    let m = least_quotient x y in
    let n = greatest_quotient x y in
    let us = positive u h in
    let o = least_out (floor_quot (x.low *ℤ g) y.low) (floor_quot (x.low *ℤ g) y.high) (floor_quot (x.high *ℤ g) y.low) (floor_quot (x.high *ℤ g) y.high) in
    let w = greatest_out (ceil_quot (x.low *ℤ g) y.low) (ceil_quot (x.low *ℤ g) y.high) (ceil_quot (x.high *ℤ g) y.low) (ceil_quot (x.high *ℤ g) y.high) in
    let ordered = in_order g y.low y.high (pos u) b grains us q.from q.to in
    let bounds : Bounds a b t u m n =
    ⊎_elim
    (λ k. let k' : pos 0 <ℤ y.high = omega (arith, linear, ordered) in
    at_above a b t u m n (above g y.low y.high (pos u) b grains us q.from q.to k)
    (point_high g y.low y.high (pos u) b grains us q.from q.to (pos t) a x.low m (natural t)
    (floor_quot_above (x.low *ℤ g) y.low m k o.first) (floor_quot_above (x.low *ℤ g) y.high m k' o.second) p.from)
    (point_low g y.low y.high (pos u) b grains us q.from q.to (pos t) a x.high n (natural t)
    (ceil_quot_below (x.high *ℤ g) y.low n k w.third) (ceil_quot_below (x.high *ℤ g) y.high n k' w.fourth) p.to))
    (λ k. let k' : y.low <ℤ pos 0 = omega (arith, linear, ordered) in
    at_below a b t u m n (below g y.low y.high (pos u) b grains us q.from q.to k)
    (point_low g y.low y.high (pos u) b grains us q.from q.to (pos t) a x.high m (natural t)
    (floor_quot_above_neg (x.high *ℤ g) y.low m k' o.third) (floor_quot_above_neg (x.high *ℤ g) y.high m k o.fourth) p.to)
    (point_high g y.low y.high (pos u) b grains us q.from q.to (pos t) a x.low n (natural t)
    (ceil_quot_below_neg (x.low *ℤ g) y.low n k' w.first) (ceil_quot_below_neg (x.low *ℤ g) y.high n k w.second) p.from))
    (sides y ordered v.apart) in
    lies_in (sign b *ℤ a *ℤ pos u) (t * nat_abs b) m n r v.spans bounds.0 bounds.1

-- ---- common parts

pub common_holds : CommonHolds
common_holds a t x y p q h =
    let m = int_max x.low y.low in
    let n = int_min x.high y.high in
    let l : (m *ℤ pos t) ≤ℤ (pos 16384 *ℤ a) = at_max x.low y.low (pos t) (pos 16384 *ℤ a) p.from q.from in
    let u : (pos 16384 *ℤ a) ≤ℤ (n *ℤ pos t) = at_min x.high y.high (pos t) (pos 16384 *ℤ a) p.to q.to in
    let o : m ≤ℤ n = in_order (pos 16384) m n (pos t) a grains (positive t h) l u in
    (from_to m n, common_in x y o, record { from = l; to = u })
  where
    at_max : (i j k b : ℤ) → (i *ℤ k) ≤ℤ b → (j *ℤ k) ≤ℤ b → (int_max i j *ℤ k) ≤ℤ b
    at_max i j k b p q = by_lt_z i j
        (λ l. let e : int_max i j ≡ j = omega (arith, linear, clamps) in rw e q)
        (λ l. let e : int_max i j ≡ i = omega (arith, linear, clamps) in rw e p)

    at_min : (i j k b : ℤ) → b ≤ℤ (i *ℤ k) → b ≤ℤ (j *ℤ k) → b ≤ℤ (int_min i j *ℤ k)
    at_min i j k b p q = by_lt_z i j
        (λ l. let e : int_min i j ≡ i = omega (arith, linear, clamps) in rw e p)
        (λ l. let e : int_min i j ≡ j = omega (arith, linear, clamps) in rw e q)
