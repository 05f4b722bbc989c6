-- The greatest of bounds that may be refused. Assumes nothing.
use Rattle.std.specs.Prelude.{◌≡◌, ℕ, zero, suc, ◌+◌, ◌-◌, ◌<◌, ◌≤◌, List, ◌∷◌, map, take, replicate, ℤ, neg_ℤ, ◌≤ℤ◌, Ok, Err, fold, Result, refl}
use Rattle.std.proofs.Common.{arith, sym, ◌∙◌, ⊎_elim}
use Rattle.std.proofs.Math.Path.{ap}
use Rattle.std.proofs.lemmas.List.{take-replicate}
use Rattle.std.proofs.lemmas.Int.{clamps, ints}
use Rattle.std.proofs.lemmas.Bool.{cases_eq}
use Rattle.std.specs.List.{range_with_len}
use Rattle.std.specs.Int.{int_max}
use Rattle.algebra.specs.Chaining.{and_then, each}
use Rattle.algebra.specs.Ends.{from_to}
use Rattle.algebra.proofs.Chaining.{ok_value, then_ok}
use Rattle.grains.specs.Arithmetic.{ends_of}
use Rattle.grains.specs.declared.interval.Interval.{Interval}
use Rattle.systems.specs.Tables.{Table}
use Rattle.enclosures.specs.declared.fault.Fault.{Fault}
use Rattle.enclosures.specs.RowSums.{greatest_bound, row_sums_of}

-- the greatest of a and the bounds at the indices
abbrev pub reach : (ℕ → Result ℤ Fault) → ℤ → List ℕ → Result ℤ Fault
reach f a is = and_then (each f is) (λ bounds. Ok (fold int_max a bounds))

pub reach_more : (f : ℕ → Result ℤ Fault) (a : ℤ) (i : ℕ) (is : List ℕ) → reach f a (i ∷ is) ≡ and_then (f i) (λ b. reach f (int_max a b) is)
reach_more f a i is = chained (f i) (each f is)
  where
    chained : (r : Result ℤ Fault) (rs : Result (List ℤ) Fault)
        → and_then (and_then r (λ b. and_then rs (λ bs. Ok (b ∷ bs)))) (λ bounds. Ok (fold int_max a bounds)) ≡ and_then r (λ b. and_then rs (λ bs. Ok (fold int_max (int_max a b) bs)))
    chained (Ok b) (Ok bs) = refl
    chained (Ok b) (Err e) = refl
    chained (Err e) rs = refl

-- a loop over the indices from i to n, with the greatest so far
module _ (f : ℕ → Result ℤ Fault) (a : ℤ) (i n : ℕ) where
  pub reach_none : reach f a (range_with_len 0 n) ≡ reach f a (range_with_len 0 (n - 0))
  reach_none = let all : n ≡ n - 0 = omega arith in ap (λ m. reach f a (range_with_len 0 m)) all

  next : i < n → reach f a (range_with_len i (n - i)) ≡ and_then (f i) (λ b. reach f (int_max a b) (range_with_len (i + 1) (n - (i + 1))))
  next h = let count : n - i ≡ suc (n - (i + 1)) = omega arith in ap (λ m. reach f a (range_with_len i m)) count ∙ reach_more f a i (range_with_len (i + 1) (n - (i + 1)))

  pub reach_step : (b c : ℤ) → i < n → f i ≡ Ok b → c ≡ int_max a b → reach f a (range_with_len i (n - i)) ≡ reach f c (range_with_len (i + 1) (n - (i + 1)))
  reach_step b c h made is = next h ∙ ap (λ r. and_then r (λ z. reach f (int_max a z) (range_with_len (i + 1) (n - (i + 1))))) made ∙ ap (λ z. reach f z (range_with_len (i + 1) (n - (i + 1)))) (sym is)

  pub reach_refused : (e : Fault) → i < n → f i ≡ Err e → reach f a (range_with_len i (n - i)) ≡ Err e
  reach_refused e h made = next h ∙ ap (λ r. and_then r (λ z. reach f (int_max a z) (range_with_len (i + 1) (n - (i + 1))))) made

  pub reach_all : i ≡ n → reach f a (range_with_len i (n - i)) ≡ Ok a
  reach_all h = let none : n - i ≡ 0 = omega arith in ap (λ m. reach f a (range_with_len i m)) none

-- the bound at the first index, and what is left
first_of : (f : ℕ → Result ℤ Fault) (a : ℤ) (k m : ℕ) (o : ℤ) → reach f a (range_with_len k (suc m)) ≡ Ok o → (b : ℤ) × (f k ≡ Ok b) × (reach f (int_max a b) (range_with_len (k + 1) m) ≡ Ok o)
first_of f a k m o e = then_ok (f k) (λ b. reach f (int_max a b) (range_with_len (k + 1) m)) o (sym (reach_more f a k (range_with_len (k + 1) m)) ∙ e)

-- each bound is at most the greatest
pub reach_above : (f : ℕ → Result ℤ Fault) (a : ℤ) (k m : ℕ) (o : ℤ) → reach f a (range_with_len k m) ≡ Ok o → (a ≤ℤ o) × ((i : ℕ) → k ≤ i → i < k + m → (b : ℤ) × (f i ≡ Ok b) × (b ≤ℤ o))
reach_above f a k zero o e = let same = ok_value e in (omega (arith, ints), λ i h l. absurd (omega arith))
reach_above f a k (suc m) o e =
    let s = first_of f a k m o e in
    let b = s.0 in
    let made = s.1 in
    let later = reach_above f (int_max a b) (k + 1) m o s.2 in
    let high = later.0 in (
      omega (arith, ints, clamps),
      λ i h l. ⊎_elim
          (λ same. (b, rw same made, omega (arith, ints, clamps)))
          (λ apart. later.1 i (omega arith) (omega arith))
          (cases_eq i k),
    )

-- what is above each bound is above the greatest
pub reach_below : (f : ℕ → Result ℤ Fault) (most : ℤ) → ((i : ℕ) (b : ℤ) → f i ≡ Ok b → b ≤ℤ most) → (a : ℤ) (k m : ℕ) (o : ℤ) → a ≤ℤ most → reach f a (range_with_len k m) ≡ Ok o → o ≤ℤ most
reach_below f most below a k zero o h e = let same = ok_value e in omega (arith, ints)
reach_below f most below a k (suc m) o h e =
    let s = first_of f a k m o e in
    let low = below k s.0 s.1 in
    reach_below f most below (int_max a s.0) (k + 1) m o (omega (arith, ints, clamps)) s.2

-- bounds that are not above others have a greatest that is not above theirs
module _ (f g : ℕ → Result ℤ Fault) where
  pub reach_narrows : (a c : ℤ) (k m : ℕ) (o : ℤ) → ((i : ℕ) (b : ℤ) → i < k + m → g i ≡ Ok b → (d : ℤ) × (f i ≡ Ok d) × (d ≤ℤ b)) → a ≤ℤ c → reach g c (range_with_len k m) ≡ Ok o
      → (p : ℤ) × (reach f a (range_with_len k m) ≡ Ok p) × (p ≤ℤ o)
  reach_narrows a c k zero o each_below h e = let same = ok_value e in (a, refl, omega (arith, ints))
  reach_narrows a c k (suc m) o each_below h e =
      let s = first_of g c k m o e in
      let n = each_below k s.0 (omega arith) s.1 in
      let low = n.2 in
      let later = reach_narrows (int_max a n.0) (int_max c s.0) (k + 1) m o (λ i b l. each_below i b (omega arith)) (omega (arith, ints, clamps)) s.2 in
      (later.0, reach_more f a k (range_with_len (k + 1) m) ∙ rw n.1 later.1, later.2)

-- ---- the row that the code writes: one interval, again and again
map_replicate : {A B : Type 0} (f : A → B) (n : ℕ) (x : A) → map f (replicate n x) ≡ replicate n (f x)
map_replicate f zero x = refl
map_replicate f (suc n) x = ap (λ ys. f x ∷ ys) (map_replicate f n x)

module _ (t : Table) (few : t.size ≤ 6) (a : ℤ) (y : Interval) (made : ends_of y ≡ from_to (neg_ℤ a) a) where
  pub verdict_row : greatest_bound t ≡ Ok a → row_sums_of t ≡ Ok (map ends_of (take t.size (replicate 6 y)))
  unfolding row_sums_of
  verdict_row e =
      ap (λ r. and_then r (λ z. Ok (replicate t.size (from_to (neg_ℤ z) z)))) e
      ∙ ap Ok (sym (ap (map ends_of) (take-replicate t.size 6 y few) ∙ map_replicate ends_of t.size y ∙ ap (replicate t.size) made))

pub verdict_fault : (t : Table) (f : Fault) → greatest_bound t ≡ Err f → row_sums_of t ≡ Err f
unfolding row_sums_of
verdict_fault t f e = ap (λ r. and_then r (λ z. Ok (replicate t.size (from_to (neg_ℤ z) z)))) e
