-- The laws of row sums. Assumes nothing.
use Rattle.std.specs.Prelude.{◌≡◌, ℕ, zero, suc, ◌+◌, ◌*◌, ◌<◌, ◌≤◌, Bool, true, false, cond, List, [], ◌∷◌, map, length, replicate, ℤ, pos, ◌*ℤ◌, neg_ℤ, ◌≤ℤ◌, ◌<ℤ◌, Ok, ◌==◌, int_lt, slice_index_or, slice_set}
use native.Mathlib.Omega.{arith}
use Rattle.std.proofs.Math.Path.{refl, sym, ap}
use Rattle.std.proofs.Common.{subst, ◌∙◌, get_or-set_same, get_or-set_other}
use Rattle.std.proofs.Math.IntN.{*ℤ-zero}
use Rattle.std.proofs.lemmas.Int.{ints}
use Rattle.std.proofs.lemmas.List.FromFn.{length-map-range_with_len, get_or-map-range_with_len}
use Rattle.std.proofs.ByRecursion.{All-get_or}
use Rattle.std.proofs.lemmas.List.{get_or-replicate, length-replicate}
use Rattle.std.proofs.lemmas.Bool.{cond_both, eqb-true, eqb-false}
use Rattle.std.specs.List.{range_with_len, AllByRecursion}
use Rattle.algebra.specs.Ends.{Ends, Ordered, Included, from_to}
use Rattle.algebra.specs.Order.{Within, ceil_quot}
use Rattle.algebra.specs.Ring.{◌⊗◌, minus, ◌⩵◌}
use Rattle.algebra.specs.Solving.{Row}
use Rattle.algebra.specs.Vectors.{at, scale, dot, sum}
use Rattle.algebra.proofs.Chaining.{ok_value, then_ok, guard_ok}
use Rattle.algebra.proofs.Order.{times_mono, ceil_quot_high}
use Rattle.algebra.proofs.Ring.{linear, solve}
use Rattle.algebra.proofs.Vectors.{at-scale, length-scale, sum-scale}
use Rattle.grains.specs.Narrowing.{IntervalOfFigures}
use Rattle.systems.specs.Entries.{thin}
use Rattle.systems.specs.Points.{Proper, PointIn, point_row}
use Rattle.systems.specs.Tables.{Table, places_of, ends_at}
use Rattle.enclosures.specs.Methods.{component_of, RowFor, Shaped, Narrowing}
use Rattle.enclosures.specs.RowSums.{absolute, magnitude, mignitude, entry_in, besides, excess_of, bound_of, greatest_bound, row_sums_of}
use Rattle.enclosures.specs.Absolutes.{absolute_within, magnitude_nonneg, magnitude_below, magnitude_point, mignitude_point, magnitude_narrows, mignitude_narrows}
use Rattle.enclosures.specs.Bounds.{Bounds}
use Rattle.enclosures.specs.Dominance.{peak, row_bounds, in_grains_bounded}
use Rattle.enclosures.specs.Excess.{bound_made}
use Rattle.enclosures.specs.Greatest.{reach, reach_above, reach_below, reach_narrows}
use Rattle.enclosures.specs.PointRows.{place_there}
use Rattle.enclosures.specs.Roundings.{quotient_small, quotient_narrows}

-- ---- what an accepted table says
row_of : ℕ → ℤ → List Ends
row_of n a = replicate n (from_to (neg_ℤ a) a)

accepts : (t : Table) (row : List Ends) → row_sums_of t ≡ Ok row → (a : ℤ) × (reach (bound_of t) (pos 0) (range_with_len 0 t.size) ≡ Ok a) × (row_of t.size a ≡ row)
unfolding row_sums_of greatest_bound row_of
accepts t row e =
    let s = then_ok (reach (bound_of t) (pos 0) (range_with_len 0 t.size)) (λ a. Ok (replicate t.size (from_to (neg_ℤ a) a))) row e in
    (s.0, s.1, ok_value s.2)

accepted : (t : Table) (a : ℤ) → reach (bound_of t) (pos 0) (range_with_len 0 t.size) ≡ Ok a → row_sums_of t ≡ Ok (row_of t.size a)
unfolding row_sums_of greatest_bound row_of
accepted t a e = rw e refl

component : (n : ℕ) (a : ℤ) (j : ℕ) → j < n → component_of (row_of n a) j ≡ from_to (neg_ℤ a) a
unfolding row_of
component n a j h = get_or-replicate n j (from_to (neg_ℤ a) a) (from_to (pos 0) (pos 0)) h

-- the bound of row i
cost_of : Table → ℕ → ℤ
cost_of t i = ceil_quot (magnitude (entry_in t i t.size) *ℤ pos 16384) (excess_of t i)

bound_accepts : (t : Table) (i : ℕ) (b : ℤ) → bound_of t i ≡ Ok b → (pos 0 <ℤ excess_of t i) × (cost_of t i ≡ b)
unfolding bound_of cost_of
bound_accepts t i b e =
    let g = guard_ok (int_lt (excess_of t i) (pos 1)) (record { number = 8 }) (Ok (cost_of t i)) b e in
    let test = g.0 in
    (omega (arith, ints), ok_value g.1)

-- ---- point systems
all_at : {A : Type 0} (P : A → Type 0) (f : ℕ → A) (n i : ℕ) → i < n → AllByRecursion P (map f (range_with_len 0 n)) → P (f i)
all_at P f n i h all =
    subst P (get_or-map-range_with_len f 0 n i i (f i) h (omega arith)) (All-get_or P (map f (range_with_len 0 n)) i (f i) (let l = length-map-range_with_len f 0 n in omega arith) all)

-- row i of a point system
module _ (t : Table) (P : PointIn t) (i : ℕ) (below : i < t.size) where
  own : ℕ → ℤ
  own j = at P.numbers (i * (t.size + 1) + j)

  lies : (j : ℕ) → j ≤ t.size → Within (pos P.scale *ℤ (entry_in t i j).low) (pos P.scale *ℤ (entry_in t i j).high) (own j)
  unfolding own
  lies j h = P.inside (i * (t.size + 1) + j) (place_there t.size i j below h)

  coefficients : List ℤ
  coefficients = map own (range_with_len 0 t.size)

  coefficient : (j : ℕ) → j < t.size → at coefficients j ≡ own j
  unfolding coefficients
  coefficient j h = get_or-map-range_with_len own 0 t.size j j (pos 0) h (omega arith)

  coefficients_long : length coefficients ≡ t.size
  unfolding coefficients
  coefficients_long = length-map-range_with_len own 0 t.size

  -- bounds on the coefficients without the diagonal one
  sizes : List ℤ
  sizes = scale (pos P.scale) (map (besides t i) (range_with_len 0 t.size))

  size_of : (j : ℕ) → j < t.size → at sizes j ≡ pos P.scale *ℤ besides t i j
  unfolding sizes
  size_of j h =
      at-scale (pos P.scale) (map (besides t i) (range_with_len 0 t.size)) j
      ∙ ap (λ z. pos P.scale *ℤ z) (get_or-map-range_with_len (besides t i) 0 t.size j j (pos 0) h (omega arith))

  sizes_long : length sizes ≡ t.size
  unfolding sizes
  sizes_long = length-scale (pos P.scale) (map (besides t i) (range_with_len 0 t.size)) ∙ length-map-range_with_len (besides t i) 0 t.size

  others : (j : ℕ) → j < length coefficients → absolute (at (slice_set coefficients i (pos 0)) j) ≤ℤ at sizes j
  others j h =
      let long = coefficients_long in
      let inside : j < t.size = omega arith in
      rw (size_of j inside) (cond_both (j == i) (pos 0) (magnitude (entry_in t i j)) (λ z. absolute (at (slice_set coefficients i (pos 0)) j) ≤ℤ (pos P.scale *ℤ z))
      (λ e. let same = eqb-true j i e in
      let z : at (slice_set coefficients i (pos 0)) j ≡ pos 0 = rw same (get_or-set_same coefficients i (pos 0) (pos 0) (omega arith)) in
      rw (z, *ℤ-zero (pos P.scale)) (omega (arith, ints)))
      (λ e. rw (get_or-set_other coefficients i j (pos 0) (pos 0) (eqb-false j i e) ∙ coefficient j inside) (magnitude_point (entry_in t i j) P.scale (own j) (lies j (omega arith)))))

  -- a vector that solves it and has its greatest component at i
  peak_bounded : (x : List ℤ) (s : ℤ) → ((j : ℕ) → absolute (at x j) ≤ℤ absolute (at x i)) → pos 0 ≤ℤ s → dot coefficients x ≡ own t.size *ℤ s
      → (excess_of t i *ℤ absolute (at x i)) ≤ℤ (magnitude (entry_in t i t.size) *ℤ s)
  unfolding excess_of sizes
  peak_bounded x s highest nonneg solves =
      let ms = map (besides t i) (range_with_len 0 t.size) in
      let k = pos P.scale in
      let positive = P.positive in
      let long = coefficients_long in
      row_bounds k coefficients sizes x i (own t.size) s (mignitude (entry_in t i i)) (magnitude (entry_in t i t.size)) (sum ms)
      (omega (arith, ints)) nonneg (omega arith) (long ∙ sym sizes_long) highest others
      (rw (coefficient i below) (mignitude_point (entry_in t i i) P.scale (own i) (lies i (omega arith))))
      (magnitude_point (entry_in t i t.size) P.scale (own t.size) (lies t.size (omega arith))) solves (sum-scale k ms)

-- a component that is at most the greatest
spread : (y m a s : ℤ) → absolute y ≤ℤ m → (pos 16384 *ℤ m) ≤ℤ (a *ℤ s) → Within (neg_ℤ a *ℤ s) (a *ℤ s) (pos 16384 *ℤ y)
spread y m a s h k =
    let w = absolute_within y in
    let low = times_mono (pos 16384) (neg_ℤ m) y (omega (arith, linear)) (omega (arith, linear)) in
    let high = times_mono (pos 16384) y m (omega (arith, linear)) (omega (arith, linear)) in
    let e = solve 2 (λ g m. g ⊗ minus m ⩵ minus (g ⊗ m)) refl (pos 16384) m in
    let f = solve 2 (λ a s. minus a ⊗ s ⩵ minus (a ⊗ s)) refl a s in
    record { low = omega (arith, linear); high = omega (arith, linear) }

bounded : (t : Table) (P : PointIn t) (i : ℕ) (below : i < t.size) (x : List ℤ) (s a b : ℤ) → ((j : ℕ) → absolute (at x j) ≤ℤ absolute (at x i)) → pos 0 ≤ℤ s
    → dot (point_row t.size P.numbers i).coefficients x ≡ (point_row t.size P.numbers i).right *ℤ s
    → pos 0 <ℤ excess_of t i → cost_of t i ≡ b → b ≤ℤ a → (pos 16384 *ℤ absolute (at x i)) ≤ℤ (a *ℤ s)
unfolding own coefficients cost_of
bounded t P i below x s a b highest nonneg solves positive cost most =
    in_grains_bounded (excess_of t i) (absolute (at x i)) (magnitude (entry_in t i t.size)) s (cost_of t i) a positive nonneg
    (peak_bounded t P i below x s highest nonneg solves)
    (ceil_quot_high (magnitude (entry_in t i t.size) *ℤ pos 16384) (excess_of t i) positive)
    (rw cost most)

pub row_sums_bounds : Bounds row_sums_of
row_sums_bounds t row proper e P [] s l nonneg all j h = absurd (let some = proper.some in omega arith)
row_sums_bounds t row proper e P (y ∷ ys) s l nonneg all j h =
    let x = y ∷ ys in
    let p = peak y ys in
    let i = p.place in
    let inside = p.inside in
    let below : i < t.size = omega arith in
    let acc = accepts t row e in
    let a = acc.0 in
    let bound = (reach_above (bound_of t) (pos 0) 0 t.size a acc.1).1 i (omega arith) (omega arith) in
    let cost = bound_accepts t i bound.0 bound.1 in
    let solves = all_at (λ (r : Row). dot r.coefficients x ≡ r.right *ℤ s) (point_row t.size P.numbers) t.size i below all in
    let top = bounded t P i below x s a bound.0 p.highest nonneg solves cost.0 cost.1 bound.2 in
    let is : from_to (neg_ℤ a) a ≡ component_of row j = sym (component t.size a j h) ∙ ap (λ r. component_of r j) acc.2 in
    subst (λ (c : Ends). Within (c.low *ℤ s) (c.high *ℤ s) (pos 16384 *ℤ at x j)) is (spread (at x j) (absolute (at x i)) a s (p.highest j) top)

-- ---- the shape of a row
bounds_small : (t : Table) → Proper t → (i : ℕ) (b : ℤ) → bound_of t i ≡ Ok b → b ≤ℤ pos 1073741824
unfolding cost_of
bounds_small t proper i b e =
    let c = bound_accepts t i b e in
    let k = i * (t.size + 1) + t.size in
    rw c.1 at (quotient_small (magnitude (ends_at t k)) (excess_of t i) (magnitude_below (ends_at t k) (pos 65536) (proper.ordered k) (proper.above k) (proper.below k)) c.0)

shape : (n : ℕ) (a : ℤ) (row : List Ends) → pos 0 ≤ℤ a → a ≤ℤ pos 1073741824 → row_of n a ≡ row → RowFor n row
unfolding row_of
shape n a row low high is = record {
  complete = ap length (sym is) ∙ length-replicate n (from_to (neg_ℤ a) a);
  intervals = λ j h. subst IntervalOfFigures (sym (component n a j h) ∙ ap (λ r. component_of r j) is)
      (omega (arith, ints), record { above = omega (arith, ints); below = omega (arith, ints) }, record { above = omega (arith, ints); below = omega (arith, ints) });
}

pub row_sums_shaped : Shaped row_sums_of
row_sums_shaped t row proper e =
    let acc = accepts t row e in
    let low = (reach_above (bound_of t) (pos 0) 0 t.size acc.0 acc.1).0 in
    let high = reach_below (bound_of t) (pos 1073741824) (bounds_small t proper) (pos 0) 0 t.size acc.0 (omega (arith, ints)) acc.1 in
    shape t.size acc.0 row low high acc.2

-- ---- narrower tables
sum_below : (f g : ℕ → ℤ) (a m : ℕ) → ((j : ℕ) → j < a + m → f j ≤ℤ g j) → sum (map f (range_with_len a m)) ≤ℤ sum (map g (range_with_len a m))
unfolding sum
sum_below f g a zero h = omega (arith, linear)
sum_below f g a (suc m) h =
    let first = h a (omega arith) in
    let rest = sum_below f g (a + 1) m (λ j l. h j (omega arith)) in
    omega (arith, linear)

besides_below : (b : Bool) (x y : ℤ) → x ≤ℤ y → cond b (pos 0) x ≤ℤ cond b (pos 0) y
besides_below true x y h = omega (arith, ints)
besides_below false x y h = h

-- both of size n
module _ (n : ℕ) (es fs : List Ends) (ordered : (k : ℕ) → Ordered (slice_index_or es k (thin (pos 0)))) (within : (k : ℕ) → k < places_of n → Included (slice_index_or es k (thin (pos 0))) (slice_index_or fs k (thin (pos 0)))) where
  inner : Table
  inner = record { size = n; entries = es }

  outer : Table
  outer = record { size = n; entries = fs }

  entries_narrow : (i j : ℕ) → i < n → j ≤ n → magnitude (entry_in inner i j) ≤ℤ magnitude (entry_in outer i j)
  unfolding inner outer
  entries_narrow i j h l = magnitude_narrows (entry_in inner i j) (entry_in outer i j) (ordered (i * (n + 1) + j)) (within (i * (n + 1) + j) (place_there n i j h l))

  excess_grows : (i : ℕ) → i < n → excess_of outer i ≤ℤ excess_of inner i
  unfolding inner outer excess_of
  excess_grows i h =
      let diagonal = mignitude_narrows (entry_in inner i i) (entry_in outer i i) (ordered (i * (n + 1) + i)) (within (i * (n + 1) + i) (place_there n i i h (omega arith))) in
      let others = sum_below (besides inner i) (besides outer i) 0 n (λ j l. besides_below (j == i) (magnitude (entry_in inner i j)) (magnitude (entry_in outer i j)) (entries_narrow i j h (omega arith))) in
      omega (arith, linear)

  bound_narrows : (i : ℕ) (b : ℤ) → i < 0 + n → bound_of outer i ≡ Ok b → (d : ℤ) × (bound_of inner i ≡ Ok d) × (d ≤ℤ b)
  unfolding inner outer cost_of
  bound_narrows i b h e =
      let c = bound_accepts outer i b e in
      let positive = c.0 in
      let l : i < n = omega arith in
      let grows = excess_grows i l in
      let wide = magnitude_nonneg (entry_in outer i n) in
      let right = entries_narrow i n l (omega arith) in
      let narrow = quotient_narrows (magnitude (entry_in outer i n) *ℤ pos 16384) (magnitude (entry_in inner i n) *ℤ pos 16384) (excess_of outer i) (excess_of inner i)
      (omega (arith, ints)) (omega (arith, ints)) c.0 grows in
      (cost_of inner i, bound_made inner i (excess_of inner i) (magnitude (entry_in inner i n)) (cost_of inner i) refl refl (omega (arith, linear)) refl, rw c.1 at narrow)

  tables_narrow : (a : ℤ) → reach (bound_of outer) (pos 0) (range_with_len 0 n) ≡ Ok a → (b : ℤ) × (reach (bound_of inner) (pos 0) (range_with_len 0 n) ≡ Ok b) × (b ≤ℤ a)
  tables_narrow a e = reach_narrows (bound_of inner) (bound_of outer) (pos 0) (pos 0) 0 n a bound_narrows (omega (arith, ints)) e

included : (n : ℕ) (b a : ℤ) (row : List Ends) (j : ℕ) → j < n → b ≤ℤ a → row_of n a ≡ row → Included (component_of (row_of n b) j) (component_of row j)
included n b a row j h low is =
    let inside : Included (from_to (neg_ℤ b) b) (from_to (neg_ℤ a) a) = record { from = omega (arith, ints); to = omega (arith, ints) } in
    let outside : from_to (neg_ℤ a) a ≡ component_of row j = sym (component n a j h) ∙ ap (λ r. component_of r j) is in
    let narrow : from_to (neg_ℤ b) b ≡ component_of (row_of n b) j = sym (component n b j h) in
    subst (λ (c : Ends). Included c (component_of row j)) narrow (subst (Included (from_to (neg_ℤ b) b)) outside inside)

pub row_sums_narrow : Narrowing row_sums_of
unfolding inner outer
row_sums_narrow t s row proper proper' narrower e =
    let n = s.size in
    let acc = accepts s row e in
    let a = acc.0 in
    let w = tables_narrow n t.entries s.entries proper.ordered narrower.within a acc.1 in
    let low = w.2 in (
      row_of n w.0,
      ap (λ m. row_sums_of (record { size = m; entries = t.entries })) narrower.same_size ∙ accepted (record { size = n; entries = t.entries }) w.0 w.1,
      λ j h. included n w.0 a row j h low acc.2,
    )
