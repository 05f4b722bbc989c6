-- The rows of a point system lie in the working rows of its system, so elimination bounds their solutions. Assumes nothing.
use Rattle.std.specs.Prelude.{◌≡◌, ℕ, zero, suc, ◌+◌, ◌*◌, ◌<◌, ◌≤◌, List, [], ◌∷◌, map, length, ℤ, pos, negsuc, ◌*ℤ◌, Ok, Err, Result, refl}
use Rattle.std.proofs.Common.{arith, ◌∙◌}
use Rattle.std.proofs.Math.Path.{sym}
use Rattle.std.proofs.lemmas.Int.{ints}
use Rattle.std.proofs.lemmas.Nat.{mul-le}
use Rattle.std.proofs.lemmas.List.FromFn.{length-map-range_with_len}
use Rattle.std.specs.List.{range_with_len, AllByRecursion}
use Rattle.algebra.specs.Ends.{Ends}
use Rattle.algebra.specs.Order.{Within}
use Rattle.algebra.specs.Ring.{◌⊗◌, ◌⩵◌}
use Rattle.algebra.specs.Solving.{Row as WholeRow, Solves}
use Rattle.algebra.specs.Vectors.{at, dot}
use Rattle.algebra.proofs.Order.{times_mono}
use Rattle.algebra.proofs.Ring.{linear, solve}
use Rattle.grains.specs.Points.{Lies}
use Rattle.grains.specs.declared.interval.ArithmeticError.{ArithmeticError}
use Rattle.systems.specs.Points.{PointIn, point_row, point_rows}
use Rattle.systems.specs.Tables.{Table, places_of, ends_at}
use Rattle.enclosures.specs.Elimination.{in_grains, working_at, row_of, eliminated, elimination_of}
use Rattle.enclosures.specs.Methods.{component_of}
use Rattle.enclosures.specs.Verdicts.{verdict_of}
use Rattle.enclosures.specs.Bounds.{Bounds}
use Rattle.enclosures.specs.Containment.{Lied, Holds, eliminated_holds}

-- ---- lists made by index
lied_map : (s : ℕ) (f : ℕ → ℤ) (g : ℕ → Ends) (a m : ℕ) → ((j : ℕ) → j < a + m → Lies (f j) s (g j)) → Lied s (map f (range_with_len a m)) (map g (range_with_len a m))
lied_map s f g a zero h = tt
lied_map s f g a (suc m) h = (h a (omega arith), lied_map s f g (a + 1) m (λ j l. h j (omega arith)))

all_map : {A B : Type 0} (P : A → Type 0) (Q : B → Type 0) (f : ℕ → A) (g : ℕ → B) (a m : ℕ) → ((i : ℕ) → i < a + m → P (f i) → Q (g i)) → AllByRecursion P (map f (range_with_len a m)) → AllByRecursion Q (map g (range_with_len a m))
all_map P Q f g a zero h all = tt
all_map P Q f g a (suc m) h all = (h a (omega arith) all.0, all_map P Q f g (a + 1) m (λ i l. h i (omega arith)) all.1)

pub lied_at : (s : ℕ) (x : List ℤ) (row : List Ends) → Lied s x row → (j : ℕ) → j < length x → Lies (at x j) s (component_of row j)
lied_at s [] row l j h = absurd (omega arith)
lied_at s (y ∷ ys) [] l j h = absurd l
lied_at s (y ∷ ys) (e ∷ row) l zero h = l.0
lied_at s (y ∷ ys) (e ∷ row) l (suc j) h = lied_at s ys row l.1 j (omega arith)

-- ---- points
-- entry j of row i has a place
pub place_there : (n i j : ℕ) → i < n → j ≤ n → i * (n + 1) + j < places_of n
place_there n i j h k =
    let full = mul-le (i + 1) (n + 1) n (n + 1) (omega arith) (omega arith) in
    let split : (i + 1) * (n + 1) ≡ i * (n + 1) + (n + 1) = omega arith in
    omega arith

in_grains_lies : (e : Ends) (a : ℤ) (s : ℕ) → Within (pos s *ℤ e.low) (pos s *ℤ e.high) a → Lies a s (in_grains e)
in_grains_lies e a s w =
    let low = times_mono (pos 16384) (pos s *ℤ e.low) a (omega (arith, linear)) w.low in
    let high = times_mono (pos 16384) a (pos s *ℤ e.high) (omega (arith, linear)) w.high in
    let i = solve 3 (λ g s e. g ⊗ (s ⊗ e) ⩵ (e ⊗ g) ⊗ s) refl (pos 16384) (pos s) e.low in
    let j = solve 3 (λ g s e. g ⊗ (s ⊗ e) ⩵ (e ⊗ g) ⊗ s) refl (pos 16384) (pos s) e.high in
    record { from = omega (arith, linear); to = omega (arith, linear) }

module _ (t : Table) (P : PointIn t) where
  entry_lies : (i j : ℕ) → i < t.size → j ≤ t.size → Lies (at P.numbers (i * (t.size + 1) + j)) P.scale (working_at t i j)
  entry_lies i j h k = in_grains_lies (ends_at t (i * (t.size + 1) + j)) (at P.numbers (i * (t.size + 1) + j)) P.scale (P.inside (i * (t.size + 1) + j) (place_there t.size i j h k))

  pub row_holds : (x : List ℤ) (s i : ℕ) → length x ≡ t.size → i < t.size
      → dot (point_row t.size P.numbers i).coefficients x ≡ (point_row t.size P.numbers i).right *ℤ pos s → Holds x s (row_of t i)
  unfolding row_of
  row_holds x s i l h solves = record {
    scale = P.scale;
    positive = P.positive;
    coefficients = (point_row t.size P.numbers i).coefficients;
    right = (point_row t.size P.numbers i).right;
    long = length-map-range_with_len (λ j. at P.numbers (i * (t.size + 1) + j)) 0 t.size ∙ sym l;
    lie = lied_map P.scale (λ j. at P.numbers (i * (t.size + 1) + j)) (working_at t i) 0 t.size (λ j k. entry_lies i j h (omega arith));
    lies = entry_lies i t.size h (omega arith);
    solves = solves;
  }

  rows_hold : (x : List ℤ) (s : ℕ) → length x ≡ t.size → Solves (point_rows t.size P.numbers) (pos s) x → AllByRecursion (Holds x s) (map (row_of t) (range_with_len 0 t.size))
  rows_hold x s l all =
      all_map (λ (r : WholeRow). dot r.coefficients x ≡ r.right *ℤ pos s) (Holds x s) (point_row t.size P.numbers) (row_of t) 0 t.size
      (λ i h e. row_holds x s i l (omega arith) e) all

accepted_row : (r : Result (List Ends) ArithmeticError) (row : List Ends) → verdict_of r ≡ Ok row → r ≡ Ok row
accepted_row (Ok xs) row e = cc
accepted_row (Err f) row e = absurd (let z : ◌≡◌ {A = ℕ} 0 1 = cc in omega arith)

pub elimination_accepts : (t : Table) (row : List Ends) → elimination_of t ≡ Ok row → eliminated t.size (map (row_of t) (range_with_len 0 t.size)) ≡ Ok row
unfolding elimination_of
elimination_accepts t row e = accepted_row (eliminated t.size (map (row_of t) (range_with_len 0 t.size))) row e

pub elimination_bounds : Bounds elimination_of
elimination_bounds t row proper e P x (pos s) l n all j h =
    let inside = eliminated_holds t.size (map (row_of t) (range_with_len 0 t.size)) x s row l (length-map-range_with_len (row_of t) 0 t.size) (rows_hold t P x s l all) (elimination_accepts t row e) in
    let lies = lied_at s x row inside j (omega arith) in
    record { low = lies.from; high = lies.to }
elimination_bounds t row proper e P x (negsuc s) l n all j h = absurd (omega (arith, ints))
