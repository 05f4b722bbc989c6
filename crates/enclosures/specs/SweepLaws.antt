-- The laws of the sweep, from those of the method below it. Assumes nothing.
use Rattle.std.specs.Prelude.{◌≡◌, ℕ, zero, suc, ◌+◌, ◌<◌, ◌≤◌, false, List, [], ◌∷◌, map, length, ℤ, pos, ◌+ℤ◌, ◌-ℤ◌, ◌*ℤ◌, Some, None, Ok, Err, Option, Result, slice_set, refl}
use Rattle.std.proofs.Common.{arith, sym, subst, ◌∙◌, length-set}
use Rattle.std.proofs.Math.Path.{ap}
use Rattle.std.proofs.Math.ListN.{get_or-map}
use Rattle.std.proofs.lemmas.List.FromFn.{length-map-range_with_len, get_or-map-range_with_len}
use Rattle.std.proofs.ByRecursion.{All-get_or}
use Rattle.std.proofs.lemmas.Int.{clamps, ints}
use Rattle.std.specs.List.{range_with_len, remove, AllByRecursion}
use Rattle.std.specs.Int.{int_min, int_max}
use Rattle.std.specs.Option.{unwrap_or}
use Rattle.algebra.specs.Chaining.{and_then}
use Rattle.algebra.specs.Ends.{Ends, Ordered, Included, from_to}
use Rattle.algebra.specs.Solving.{Row as WholeRow}
use Rattle.algebra.specs.Vectors.{at, dot}
use Rattle.algebra.proofs.Chaining.{ok_value, then_ok, guard_ok}
use Rattle.algebra.proofs.Ring.{linear}
use Rattle.grains.specs.Arithmetic.{common_of, contains_zero, in_span, least_quotient, greatest_quotient, quotient_of}
use Rattle.grains.specs.Narrowing.{IntervalOfFigures}
use Rattle.grains.specs.Points.{Lies}
use Rattle.grains.specs.declared.interval.ArithmeticError.{ArithmeticError}
use Rattle.grains.specs.declared.interval.ArithmeticError.TheVariants.{DivisorContainsZero}
use Rattle.grains.proofs.Containment.{common_holds}
use Rattle.grains.proofs.Narrowing.{common_narrows}
use Rattle.grains.proofs.Span.{common_out, common_is}
use Rattle.systems.specs.Entries.{thin}
use Rattle.systems.specs.Points.{Proper, PointIn, SolutionOf, point_row, AtMost, AtLeast}
use Rattle.systems.specs.Tables.{Table, Narrower}
use Rattle.enclosures.specs.Elimination.{Row, less_products, row_of}
use Rattle.enclosures.specs.Methods as methods
use Rattle.enclosures.specs.Methods.{component_of, RowFor, Shaped, Solvable, Agreed, Enclosed}
use Rattle.enclosures.specs.Sweeping.{solved_for, narrowed_by, narrowed_at, swept_from, sweep_of}
use Rattle.enclosures.specs.Verdicts.{Verdict}
use Rattle.enclosures.specs.Containment.{Lied, Rest, rest_start, rest_all, solved_quotient}
use Rattle.enclosures.specs.Nesting.{Inner, Nested, NestedRow, then_within, products_within, quotient_within}
use Rattle.enclosures.specs.PointRows.{lied_at, row_holds}
use Rattle.enclosures.specs.Narrowing.{row_at, row_nested}
use Rattle.enclosures.specs.Sweeps.{swept_long}

-- ---- lists without one element
lied_removed : (s : ℕ) (bs : List ℤ) (es : List Ends) (i : ℕ) → Lied s bs es → Lied s (remove bs i) (remove es i)
lied_removed s [] [] zero l = tt
lied_removed s [] [] (suc i) l = tt
lied_removed s [] (e ∷ es) i l = absurd l
lied_removed s (b ∷ bs) [] i l = absurd l
lied_removed s (b ∷ bs) (e ∷ es) zero l = l.1
lied_removed s (b ∷ bs) (e ∷ es) (suc i) l = (l.0, lied_removed s bs es i l.1)

nested_removed : (xs ys : List Ends) (i : ℕ) → Nested xs ys → Nested (remove xs i) (remove ys i)
nested_removed [] [] zero n = tt
nested_removed [] [] (suc i) n = tt
nested_removed [] (y ∷ ys) i n = absurd n
nested_removed (x ∷ xs) [] i n = absurd n
nested_removed (x ∷ xs) (y ∷ ys) zero n = n.1
nested_removed (x ∷ xs) (y ∷ ys) (suc i) n = (n.0, nested_removed xs ys i n.1)

long_removed : (xs ys : List ℤ) (i : ℕ) → length xs ≡ length ys → length (remove xs i) ≡ length (remove ys i)
long_removed [] [] i h = refl
long_removed [] (y ∷ ys) i h = absurd (let z : ◌≡◌ {A = ℕ} 0 1 = cc in omega arith)
long_removed (x ∷ xs) [] i h = absurd (let z : ◌≡◌ {A = ℕ} 0 1 = cc in omega arith)
long_removed (x ∷ xs) (y ∷ ys) zero h = let k : length xs ≡ length ys = cc in k
long_removed (x ∷ xs) (y ∷ ys) (suc i) h = ap suc (long_removed xs ys i (let k : length xs ≡ length ys = cc in k))

dot_removed : (bs ys : List ℤ) (i : ℕ) → length bs ≡ length ys → dot bs ys ≡ at bs i *ℤ at ys i +ℤ dot (remove bs i) (remove ys i)
unfolding dot
dot_removed [] [] zero h = refl
dot_removed [] [] (suc i) h = refl
dot_removed [] (y ∷ ys) i h = absurd (let z : ◌≡◌ {A = ℕ} 0 1 = cc in omega arith)
dot_removed (b ∷ bs) [] i h = absurd (let z : ◌≡◌ {A = ℕ} 0 1 = cc in omega arith)
dot_removed (b ∷ bs) (y ∷ ys) zero h = refl
dot_removed (b ∷ bs) (y ∷ ys) (suc i) h = let r = dot_removed bs ys i (let k : length bs ≡ length ys = cc in k) in omega (arith, linear)

lied_set : (s : ℕ) (x : List ℤ) (row : List Ends) (i : ℕ) (z : Ends) → Lied s x row → Lies (at x i) s z → Lied s x (slice_set row i z)
lied_set s [] [] i z l lz = l
lied_set s [] (e ∷ row) i z l lz = absurd l
lied_set s (y ∷ ys) [] i z l lz = absurd l
lied_set s (y ∷ ys) (e ∷ row) zero z l lz = (lz, l.1)
lied_set s (y ∷ ys) (e ∷ row) (suc i) z l lz = (l.0, lied_set s ys row i z l.1 lz)

nested_set : (xs ys : List Ends) (i : ℕ) (x y : Ends) → Nested xs ys → Inner x y → Nested (slice_set xs i x) (slice_set ys i y)
nested_set [] [] i x y n h = n
nested_set [] (b ∷ ys) i x y n h = absurd n
nested_set (a ∷ xs) [] i x y n h = absurd n
nested_set (a ∷ xs) (b ∷ ys) zero x y n h = (h, n.1)
nested_set (a ∷ xs) (b ∷ ys) (suc i) x y n h = (n.0, nested_set xs ys i x y n.1 h)

-- ---- what a common part is
record Part (r x : Ends) : Type 0 where
  ordered : Ordered r
  included : Included r x

common_part : (x y r : Ends) → common_of x y ≡ Some r → Part r x
common_part x y r e =
    let o = common_out x y r e in
    let p : Part (from_to (int_max x.low y.low) (int_min x.high y.high)) x = record { ordered = o; included = record { from = omega (arith, ints, clamps); to = omega (arith, ints, clamps) } } in
    subst (λ (z : Ends). Part z x) (common_is x y r e) p

quotient_apart : (x y r : Ends) → quotient_of x y ≡ Ok r → contains_zero y ≡ false
unfolding quotient_of
quotient_apart x y r e = (guard_ok (contains_zero y) DivisorContainsZero (in_span (least_quotient x y) (greatest_quotient x y)) r e).0

-- what holds of a list made by index
counted_all : {A : Type 0} (Q : A → Type 0) (f : ℕ → A) (n j : ℕ) → j < n → AllByRecursion Q (map f (range_with_len 0 n)) → Q (f j)
counted_all Q f n j h all =
    let long : j < length (map f (range_with_len 0 n)) = rw length-map-range_with_len h in
    subst Q (get_or-map-range_with_len f 0 n j j (f j) h (omega arith)) (All-get_or Q (map f (range_with_len 0 n)) j (f j) long all)

-- ---- containment: a solution in the row stays in it
module _ (t : Table) (P : PointIn t) (d : ℕ) (p : List ℤ) (solution : SolutionOf t P d p) where
  -- the rows of the point system hold, so a row solved for unknown i contains component i
  solved_for_lies : (i : ℕ) (xs : List Ends) (new : Ends) → i < t.size → Lied d p xs → solved_for (row_of t i) i xs ≡ Ok new → Lies (at p i) d new
  unfolding solved_for
  solved_for_lies i xs new h l ok =
      let r = row_of t i in
      let H = row_holds t P p d i solution.size h (counted_all (λ (r : WholeRow). dot r.coefficients p ≡ r.right *ℤ pos d) (point_row t.size P.numbers) t.size i h solution.solves) in
      let first = then_ok (less_products r.right (remove r.coefficients i) (remove xs i)) (λ e. quotient_of e (component_of r.coefficients i)) new ok in
      let bs = H.coefficients in
      let β = H.right in
      let rest = rest_all H.scale d (β *ℤ pos d) r.right (remove bs i) (remove p i) (remove r.coefficients i) (remove xs i) first.0 H.positive solution.positive
      (long_removed bs p i H.long) (rest_start β H.scale d r.right H.positive H.lies) (lied_removed H.scale bs r.coefficients i H.lie) (lied_removed d p xs i l) first.1 in
      let split = dot_removed bs p i H.long in
      let solves = H.solves in
      let left : β *ℤ pos d -ℤ dot (remove bs i) (remove p i) ≡ at bs i *ℤ at p i = omega (arith, linear) in
      solved_quotient (at bs i) (at p i) H.scale d first.0 (component_of r.coefficients i) new H.positive (subst (λ (u : ℤ). Rest H.scale d u first.0) left rest)
      (lied_at H.scale bs r.coefficients H.lie i (omega (arith, H.long, solution.size))) (quotient_apart first.0 (component_of r.coefficients i) new first.2) first.2

  -- the common part is not empty: component i lies in both
  common_there : (i : ℕ) (xs : List Ends) (new : Ends) → i < t.size → Lied d p xs → solved_for (row_of t i) i xs ≡ Ok new
      → (r : Ends) × (common_of (component_of xs i) new ≡ Some r) × Lies (at p i) d r
  common_there i xs new h l ok = common_holds (at p i) d (component_of xs i) new (lied_at d p xs l i (omega (arith, solution.size))) (solved_for_lies i xs new h l ok) solution.positive

  narrowed_lies : (i : ℕ) (xs : List Ends) → i < t.size → Lied d p xs → Lies (at p i) d (narrowed_at t i xs)
  narrowed_lies i xs h l = by_answer (solved_for (row_of t i) i xs) (λ new e. common_there i xs new h l e)
    where
      by_answer : (o : Result Ends ArithmeticError) → ((new : Ends) → o ≡ Ok new → (r : Ends) × (common_of (component_of xs i) new ≡ Some r) × Lies (at p i) d r) → Lies (at p i) d (narrowed_by (component_of xs i) o)
      by_answer (Ok new) c = let w = c new refl in subst (λ (o : Option Ends). Lies (at p i) d (unwrap_or o (component_of xs i))) (sym w.1) w.2
      by_answer (Err e) c = lied_at d p xs l i (omega (arith, solution.size))

  swept_lies : (more i : ℕ) (xs : List Ends) → i + more ≤ t.size → Lied d p xs → Lied d p (swept_from more i t xs)
  unfolding swept_from
  swept_lies zero i xs h l = l
  swept_lies (suc more) i xs h l = swept_lies more (i + 1) (slice_set xs i (narrowed_at t i xs)) (omega arith) (lied_set d p xs i (narrowed_at t i xs) l (narrowed_lies i xs (omega arith) l))

-- ---- narrowing: the sweeps of two tables of one size side by side
-- the answers of one component's step, where the narrower one's common part is not empty
step_inner : (old wide : Ends) (o w : Result Ends ArithmeticError) → Inner old wide
    → ((new : Ends) → o ≡ Ok new → (r : Ends) × (common_of old new ≡ Some r))
    → ((far : Ends) → w ≡ Ok far → (new : Ends) × (o ≡ Ok new) × Inner new far)
    → Inner (narrowed_by old o) (narrowed_by wide w)
step_inner old wide (Err e) (Err f) i there within = i
step_inner old wide (Err e) (Ok far) i there within = absurd (let k = within far refl in let m = k.1 in let z : ◌≡◌ {A = ℕ} 0 1 = cc in omega arith)
step_inner old wide (Ok new) (Err f) i there within =
    let c = there new refl in
    let q = common_part old new c.0 c.1 in
    subst (λ (o : Option Ends). Inner (unwrap_or o old) wide) (sym c.1) (record { ordered = q.ordered; included = record { from = omega (arith, ints, q.included.from, i.included.from); to = omega (arith, ints, q.included.to, i.included.to) } })
step_inner old wide (Ok new) (Ok far) i there within =
    let c = there new refl in
    let k = within far refl in
    let same : k.0 ≡ new = ok_value (sym k.1) in
    let n : Inner new far = subst (λ (z : Ends). Inner z far) same k.2 in
    let m = common_narrows old new wide far c.0 i.included n.included c.1 in
    let q = common_part old new c.0 c.1 in
    subst (λ (o : Option Ends). Inner (unwrap_or o old) (unwrap_or (common_of wide far) wide)) (sym c.1)
    (subst (λ (o : Option Ends). Inner c.0 (unwrap_or o wide)) (sym m.1) (record { ordered = q.ordered; included = m.2 }))

nested_inner : (xs ys : List Ends) → Nested xs ys → (j : ℕ) → Inner (component_of xs j) (component_of ys j)
nested_inner [] [] n j = record { ordered = omega (arith, ints); included = record { from = omega (arith, ints); to = omega (arith, ints) } }
nested_inner [] (y ∷ ys) n j = absurd n
nested_inner (x ∷ xs) [] n j = absurd n
nested_inner (x ∷ xs) (y ∷ ys) n zero = n.0
nested_inner (x ∷ xs) (y ∷ ys) n (suc j) = nested_inner xs ys n.1 j

solved_for_within : (r r' : Row) (i : ℕ) (xs ys : List Ends) (far : Ends) → NestedRow r r' → Nested xs ys → solved_for r' i ys ≡ Ok far → (new : Ends) × (solved_for r i xs ≡ Ok new) × Inner new far
unfolding solved_for
solved_for_within r r' i xs ys far nr nx ok =
    let s = then_ok (less_products r'.right (remove r'.coefficients i) (remove ys i)) (λ d. quotient_of d (component_of r'.coefficients i)) far ok in
    let w = then_within (less_products r.right (remove r.coefficients i) (remove xs i)) (λ d. quotient_of d (component_of r.coefficients i)) (λ d. Inner d s.0) (λ z. Inner z far × IntervalOfFigures z)
    (products_within r.right r'.right (remove r.coefficients i) (remove xs i) (remove r'.coefficients i) (remove ys i) s.0 nr.right
    (nested_removed r.coefficients r'.coefficients i nr.coefficients) (nested_removed xs ys i nx) s.1)
    (λ d id. quotient_within d (component_of r.coefficients i) s.0 (component_of r'.coefficients i) far id (nested_inner r.coefficients r'.coefficients nr.coefficients i) s.2) in
    (w.0, w.1, w.2.0)

-- t is the narrower table, at the size of s
module _ (t s : Table) (same : t.size ≡ s.size) (rows : (i : ℕ) → i < t.size → NestedRow (row_of t i) (row_of s i))
    (P : PointIn t) (d : ℕ) (p : List ℤ) (solution : SolutionOf t P d p) where
  narrowed_inner : (i : ℕ) (xs ys : List Ends) → i < t.size → Lied d p xs → Nested xs ys → Inner (narrowed_at t i xs) (narrowed_at s i ys)
  narrowed_inner i xs ys h l n =
      step_inner (component_of xs i) (component_of ys i) (solved_for (row_of t i) i xs) (solved_for (row_of s i) i ys) (nested_inner xs ys n i)
      (λ new e. let c = common_there t P d p solution i xs new h l e in (c.0, c.1))
      (λ far e. solved_for_within (row_of t i) (row_of s i) i xs ys far (rows i h) n e)

  swept_nested : (more i : ℕ) (xs ys : List Ends) → i + more ≤ t.size → Lied d p xs → Nested xs ys → Nested (swept_from more i t xs) (swept_from more i s ys)
  unfolding swept_from
  swept_nested zero i xs ys h l n = n
  swept_nested (suc more) i xs ys h l n =
      swept_nested more (i + 1) (slice_set xs i (narrowed_at t i xs)) (slice_set ys i (narrowed_at s i ys)) (omega arith)
      (lied_set d p xs i (narrowed_at t i xs) l (narrowed_lies t P d p solution i xs (omega arith) l)) (nested_set xs ys i (narrowed_at t i xs) (narrowed_at s i ys) n (narrowed_inner i xs ys (omega arith) l n))

-- ---- rows by index
lied_from : (s : ℕ) (x : List ℤ) (row : List Ends) → length x ≡ length row → ((j : ℕ) → j < length x → Lies (at x j) s (component_of row j)) → Lied s x row
lied_from s [] [] h each = tt
lied_from s [] (e ∷ row) h each = absurd (let z : ◌≡◌ {A = ℕ} 0 1 = cc in omega arith)
lied_from s (y ∷ x) [] h each = absurd (let z : ◌≡◌ {A = ℕ} 0 1 = cc in omega arith)
lied_from s (y ∷ x) (e ∷ row) h each = (each zero (omega arith), lied_from s x row (let k : length x ≡ length row = cc in k) (λ j l. each (suc j) (omega arith)))

nested_from : (xs ys : List Ends) → length xs ≡ length ys → ((j : ℕ) → j < length xs → Inner (component_of xs j) (component_of ys j)) → Nested xs ys
nested_from [] [] h each = tt
nested_from [] (y ∷ ys) h each = absurd (let z : ◌≡◌ {A = ℕ} 0 1 = cc in omega arith)
nested_from (x ∷ xs) [] h each = absurd (let z : ◌≡◌ {A = ℕ} 0 1 = cc in omega arith)
nested_from (x ∷ xs) (y ∷ ys) h each = (each zero (omega arith), nested_from xs ys (let k : length xs ≡ length ys = cc in k) (λ j l. each (suc j) (omega arith)))

-- ---- the shape of a row
figures_narrowed : (old : Ends) (o : Result Ends ArithmeticError) → IntervalOfFigures old → IntervalOfFigures (narrowed_by old o)
figures_narrowed old (Err e) i = i
figures_narrowed old (Ok new) i = by_part (common_of old new) (λ r e. common_part old new r e)
  where
    by_part : (c : Option Ends) → ((r : Ends) → c ≡ Some r → Part r old) → IntervalOfFigures (unwrap_or c old)
    by_part None part = i
    by_part (Some r) part =
        let q = part r refl in (
          q.ordered,
          record { above = omega (arith, ints, q.included.from, i.1.above); below = omega (arith, ints, q.ordered, q.included.to, i.2.below) },
          record { above = omega (arith, ints, q.ordered, q.included.from, i.1.above); below = omega (arith, ints, q.included.to, i.2.below) },
        )

figures_set : (xs : List Ends) (i : ℕ) (z : Ends) → IntervalOfFigures z → ((j : ℕ) → j < length xs → IntervalOfFigures (component_of xs j)) → (j : ℕ) → j < length (slice_set xs i z) → IntervalOfFigures (component_of (slice_set xs i z) j)
figures_set [] i z h each j l = each j l
figures_set (x ∷ xs) zero z h each zero l = h
figures_set (x ∷ xs) zero z h each (suc j) l = each (suc j) l
figures_set (x ∷ xs) (suc i) z h each zero l = each zero (omega arith)
figures_set (x ∷ xs) (suc i) z h each (suc j) l = figures_set xs i z h (λ k m. each (suc k) (omega arith)) j (omega arith)

figures_swept : (more i : ℕ) (t : Table) (xs : List Ends) → i + more ≤ length xs → ((j : ℕ) → j < length xs → IntervalOfFigures (component_of xs j))
    → (j : ℕ) → j < length (swept_from more i t xs) → IntervalOfFigures (component_of (swept_from more i t xs) j)
unfolding swept_from
figures_swept zero i t xs h each = each
figures_swept (suc more) i t xs h each =
    let z = narrowed_at t i xs in
    let long = length-set xs i z in
    figures_swept more (i + 1) t (slice_set xs i z) (omega arith)
    (figures_set xs i z (figures_narrowed (component_of xs i) (solved_for (row_of t i) i xs) (each i (omega arith))) each)

-- ---- a point system inside every proper table: that of the low ends
lowest : (t : Table) → Proper t → PointIn t
lowest t proper = record {
  scale = 1;
  positive = omega arith;
  numbers = map (λ (e : Ends). e.low) t.entries;
  inside = λ k h.
      let e = get_or-map (λ (x : Ends). x.low) t.entries k (thin (pos 0)) in
      let o = proper.ordered k in
      record { low = omega (arith, ints, e); high = omega (arith, ints, e) };
}

-- the rows of a narrower table
rows : (t s : Table) → Proper t → Narrower t s → (i : ℕ) → i < t.size → NestedRow (row_of t i) (row_of s i)
unfolding row_of
rows t s proper narrower i h =
    subst (λ (m : ℕ). NestedRow (row_at m t i) (row_at s.size s i)) (sym narrower.same_size) (row_nested s.size t s proper.ordered narrower.within i (omega (arith, narrower.same_size)))

-- ---- the laws
module _ (v : Table → Verdict) (shaped : Shaped v) (solvable : Solvable v) (agreed : Agreed v) (enclosed : Enclosed v) (narrows : methods.Narrowing v) where
  accepts : (t : Table) (row : List Ends) → sweep_of v t ≡ Ok row → (r : List Ends) × (v t ≡ Ok r) × (swept_from t.size 0 t r ≡ row)
  unfolding sweep_of
  accepts t row e = let s = then_ok (v t) (λ r. Ok (swept_from t.size 0 t r)) row e in (s.0, s.1, ok_value s.2)

  accepted : (t : Table) (r : List Ends) → v t ≡ Ok r → sweep_of v t ≡ Ok (swept_from t.size 0 t r)
  unfolding sweep_of
  accepted t r e = ap (λ o. and_then o (λ x. Ok (swept_from t.size 0 t x))) e

  pub sweep_shaped : Shaped (sweep_of v)
  sweep_shaped t row proper e =
      let base = accepts t row e in
      let w = shaped t base.0 proper base.1 in
      let long = swept_long t.size 0 t base.0 in
      let each = figures_swept t.size 0 t base.0 (omega (arith, w.complete)) (λ j h. w.intervals j (omega (arith, w.complete))) in
      subst (RowFor t.size) base.2 (record { complete = long ∙ w.complete; intervals = λ j h. each j (omega (arith, long, w.complete)) })

  pub sweep_solvable : Solvable (sweep_of v)
  sweep_solvable t row proper e = let base = accepts t row e in solvable t base.0 proper base.1

  pub sweep_agreed : Agreed (sweep_of v)
  sweep_agreed t row proper e = let base = accepts t row e in agreed t base.0 proper base.1

  -- the row of the method below, and every solution in it
  lied_below : (t : Table) (r : List Ends) → Proper t → v t ≡ Ok r → (P : PointIn t) (d : ℕ) (p : List ℤ) → SolutionOf t P d p → Lied d p r
  lied_below t r proper e P d p solution =
      let w = shaped t r proper e in
      lied_from d p r (solution.size ∙ sym w.complete) (λ j h. let b = enclosed t r proper e P d p solution j (omega (arith, solution.size)) in record { from = b.0; to = b.1 })

  pub sweep_enclosed : Enclosed (sweep_of v)
  sweep_enclosed t row proper e P d p solution j h =
      let base = accepts t row e in
      let l = swept_lies t P d p solution t.size 0 base.0 (omega arith) (lied_below t base.0 proper base.1 P d p solution) in
      let k = lied_at d p (swept_from t.size 0 t base.0) l j (omega (arith, solution.size)) in
      subst (λ (r : List Ends). AtMost (component_of r j).low d p j × AtLeast (component_of r j).high d p j) base.2 (k.from, k.to)

  pub sweep_narrows : methods.Narrowing (sweep_of v)
  sweep_narrows t s row proper proper' narrower e =
      let base = accepts s row e in
      let b = narrows t s base.0 proper proper' narrower base.1 in
      let same = narrower.same_size in
      let w = shaped t b.0 proper b.1 in
      let w' = shaped s base.0 proper' base.1 in
      let P = lowest t proper in
      let x = solvable t b.0 proper b.1 P in
      let long : length b.0 ≡ length base.0 = w.complete ∙ same ∙ sym w'.complete in
      let nested = nested_from b.0 base.0 long (λ j h. record { ordered = (w.intervals j (omega (arith, w.complete))).0; included = b.2 j (omega (arith, w.complete)) }) in
      let swept = swept_nested t s same (rows t s proper narrower) P x.0 x.1 x.2 t.size 0 b.0 base.0 (omega arith) (lied_below t b.0 proper b.1 P x.0 x.1 x.2) nested in
      let within : Nested (swept_from t.size 0 t b.0) row = subst (λ (r : List Ends). Nested (swept_from t.size 0 t b.0) r) (ap (λ n. swept_from n 0 s base.0) same ∙ base.2) swept in
      (swept_from t.size 0 t b.0, accepted t b.0 b.1, λ j h. (nested_inner (swept_from t.size 0 t b.0) row within j).included)
