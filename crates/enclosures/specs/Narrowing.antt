-- The laws of elimination. Assumes nothing.
use Rattle.std.specs.Prelude.{◌≡◌, ℕ, zero, suc, ◌+◌, ◌*◌, ◌<◌, List, [], ◌∷◌, map, length, Ok}
use Rattle.std.proofs.Common.{arith, sym, ap, subst, ◌∙◌}
use Rattle.std.proofs.lemmas.Int.{ints}
use Rattle.std.proofs.lemmas.List.FromFn.{length-map-range_with_len}
use Rattle.std.specs.List.{range_with_len, AllByRecursion}
use Rattle.algebra.specs.Chaining.{and_then, each}
use Rattle.algebra.specs.Ends.{Ends, Ordered, Included}
use Rattle.algebra.proofs.Chaining.{ok_value, then_ok, guard_ok}
use Rattle.grains.specs.Arithmetic.{contains_zero}
use Rattle.grains.specs.Narrowing.{IntervalOfFigures}
use Rattle.grains.specs.declared.interval.ArithmeticError.TheVariants.{DivisorContainsZero}
use Rattle.systems.specs.Tables.{Table, places_of, ends_at}
use Rattle.enclosures.specs.Elimination.{Row, lead, in_grains, reduced_of, solved_of, eliminated, row_of, elimination_of}
use Rattle.enclosures.specs.Methods as methods
use Rattle.enclosures.specs.Methods.{component_of, RowFor, Shaped}
use Rattle.enclosures.specs.Verdicts.{verdict_of}
use Rattle.enclosures.specs.Nesting.{Inner, Nested, NestedRow, NestedRows, eliminated_within}
use Rattle.enclosures.specs.PointRows.{place_there, elimination_accepts}

-- ---- from tables to rows. The size is spoken of apart from the table, since two tables may share it
abbrev pub row_at : ℕ → Table → ℕ → Row
row_at n t i = record { coefficients = map (λ j. in_grains (ends_at t (i * (n + 1) + j))) (range_with_len 0 n); right = in_grains (ends_at t (i * (n + 1) + n)) }

nested_map : (f g : ℕ → Ends) (a m : ℕ) → ((j : ℕ) → j < a + m → Inner (f j) (g j)) → Nested (map f (range_with_len a m)) (map g (range_with_len a m))
nested_map f g a zero h = tt
nested_map f g a (suc m) h = (h a (omega arith), nested_map f g (a + 1) m (λ j l. h j (omega arith)))

rows_map : (f g : ℕ → Row) (a m : ℕ) → ((i : ℕ) → i < a + m → NestedRow (f i) (g i)) → NestedRows (map f (range_with_len a m)) (map g (range_with_len a m))
rows_map f g a zero h = tt
rows_map f g a (suc m) h = (h a (omega arith), rows_map f g (a + 1) m (λ i l. h i (omega arith)))

grains_inner : (e f : Ends) → Ordered e → Included e f → Inner (in_grains e) (in_grains f)
grains_inner e f o i = record { ordered = omega (arith, ints); included = record { from = omega (arith, ints); to = omega (arith, ints) } }

module _ (n : ℕ) (t s : Table) (ordered : (k : ℕ) → Ordered (ends_at t k)) (within : (k : ℕ) → k < places_of n → Included (ends_at t k) (ends_at s k)) where
  pub row_nested : (i : ℕ) → i < n → NestedRow (row_at n t i) (row_at n s i)
  row_nested i h = record {
    coefficients = nested_map (λ j. in_grains (ends_at t (i * (n + 1) + j))) (λ j. in_grains (ends_at s (i * (n + 1) + j))) 0 n
        (λ j k. grains_inner (ends_at t (i * (n + 1) + j)) (ends_at s (i * (n + 1) + j)) (ordered (i * (n + 1) + j)) (within (i * (n + 1) + j) (place_there n i j h (omega arith))));
    right = grains_inner (ends_at t (i * (n + 1) + n)) (ends_at s (i * (n + 1) + n)) (ordered (i * (n + 1) + n)) (within (i * (n + 1) + n) (place_there n i n h (omega arith)));
  }

  tables_nested : NestedRows (map (row_at n t) (range_with_len 0 n)) (map (row_at n s) (range_with_len 0 n))
  tables_nested = rows_map (row_at n t) (row_at n s) 0 n (λ i h. row_nested i (omega arith))

  -- elimination of the narrower table, at the wider one's size
  table_within : (row : List Ends) → eliminated n (map (row_at n s) (range_with_len 0 n)) ≡ Ok row
      → (row' : List Ends) × (eliminated n (map (row_at n t) (range_with_len 0 n)) ≡ Ok row') × (Nested row' row × AllByRecursion IntervalOfFigures row')
  table_within row e = eliminated_within n (map (row_at n t) (range_with_len 0 n)) (map (row_at n s) (range_with_len 0 n)) row tables_nested e

nested_at : (xs ys : List Ends) → Nested xs ys → (j : ℕ) → Included (component_of xs j) (component_of ys j)
nested_at [] [] n j = record { from = omega (arith, ints); to = omega (arith, ints) }
nested_at [] (y ∷ ys) n j = absurd n
nested_at (x ∷ xs) [] n j = absurd n
nested_at (x ∷ xs) (y ∷ ys) n zero = n.0.included
nested_at (x ∷ xs) (y ∷ ys) n (suc j) = nested_at xs ys n.1 j

by_rows : (t : Table) (n : ℕ) (row : List Ends) → t.size ≡ n → eliminated n (map (row_at n t) (range_with_len 0 n)) ≡ Ok row → elimination_of t ≡ Ok row
unfolding elimination_of row_of
by_rows t n row e accepted = (λ i. verdict_of (eliminated (e i) (map (row_at (e i) t) (range_with_len 0 (e i))))) ∙ ap verdict_of accepted

rows_of : (t : Table) (row : List Ends) → elimination_of t ≡ Ok row → eliminated t.size (map (row_at t.size t) (range_with_len 0 t.size)) ≡ Ok row
unfolding row_of
rows_of t row e = elimination_accepts t row e

pub elimination_narrows : methods.Narrowing elimination_of
elimination_narrows t s row proper proper' narrower e =
    let w = table_within s.size t s proper.ordered narrower.within row (rows_of s row e) in
    (w.0, by_rows t s.size w.0 narrower.same_size w.1, λ j h. nested_at w.0 row w.2.0 j)

-- ---- the shape of a row
each_long : (p : Row) (rs qs : List Row) → each (reduced_of p) rs ≡ Ok qs → length qs ≡ length rs
each_long p [] qs ok = ap length (sym (ok_value ok))
each_long p (r ∷ rs) qs ok =
    let f = then_ok (reduced_of p r) (λ z. and_then (each (reduced_of p) rs) (λ zs. Ok (z ∷ zs))) qs ok in
    let s = then_ok (each (reduced_of p) rs) (λ zs. Ok (f.0 ∷ zs)) qs f.2 in
    ap length (sym (ok_value s.2)) ∙ ap suc (each_long p rs s.0 s.1)

eliminated_long : (n : ℕ) (rs : List Row) (row : List Ends) → length rs ≡ n → eliminated n rs ≡ Ok row → length row ≡ n
unfolding eliminated
eliminated_long zero rs row l ok = ap length (sym (ok_value ok))
eliminated_long (suc n) [] row l ok = absurd (let z : ◌≡◌ {A = ℕ} 0 1 = cc in omega arith)
eliminated_long (suc n) (p ∷ rs) row l ok =
    let guard = guard_ok (contains_zero (lead p)) DivisorContainsZero (and_then (each (reduced_of p) rs) (λ rest. and_then (eliminated n rest) (λ xs. and_then (solved_of p xs) (λ z. Ok (z ∷ xs))))) row ok in
    let f = then_ok (each (reduced_of p) rs) (λ rest. and_then (eliminated n rest) (λ xs. and_then (solved_of p xs) (λ z. Ok (z ∷ xs)))) row guard.1 in
    let g = then_ok (eliminated n f.0) (λ xs. and_then (solved_of p xs) (λ z. Ok (z ∷ xs))) row f.2 in
    let h = then_ok (solved_of p g.0) (λ z. Ok (z ∷ g.0)) row g.2 in
    let k : length rs ≡ n = cc in
    ap length (sym (ok_value h.2)) ∙ ap suc (eliminated_long n f.0 g.0 (each_long p rs f.0 f.1 ∙ k) g.1)

all_at : (xs : List Ends) → AllByRecursion IntervalOfFigures xs → (j : ℕ) → j < length xs → IntervalOfFigures (component_of xs j)
all_at [] figures j h = absurd (omega arith)
all_at (x ∷ xs) figures zero h = figures.0
all_at (x ∷ xs) figures (suc j) h = all_at xs figures.1 j (omega arith)

included_self : (e : Ends) → Included e e
included_self e = record { from = omega (arith, ints); to = omega (arith, ints) }

pub elimination_shaped : Shaped elimination_of
elimination_shaped t row proper e =
    let rows = rows_of t row e in
    let w = table_within t.size t t proper.ordered (λ k h. included_self (ends_at t k)) row rows in
    let same : w.0 ≡ row = ok_value (sym w.1 ∙ rows) in
    let long = eliminated_long t.size (map (row_at t.size t) (range_with_len 0 t.size)) row (length-map-range_with_len (row_at t.size t) 0 t.size) rows in
    let all : AllByRecursion IntervalOfFigures row = subst (AllByRecursion IntervalOfFigures) same w.2.1 in
    record { complete = long; intervals = λ j h. all_at row all j (omega arith) }
