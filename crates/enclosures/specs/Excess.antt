-- The excess of a row, entry by entry, and the bound that it gives. Assumes nothing.
use Rattle.std.specs.Prelude.{◌≡◌, ℕ, ◌+◌, List, [], ◌∷◌, ◌++◌, map, ℤ, pos, ◌+ℤ◌, ◌-ℤ◌, ◌*ℤ◌, ◌<ℤ◌, Ok, Err, ◌==◌, ◌≢◌, int_lt}
use Rattle.std.proofs.Common.{arith, sym, ◌∙◌}
use Rattle.std.proofs.Math.Path.{ap}
use Rattle.std.proofs.lemmas.Int.{ints}
use Rattle.std.proofs.lemmas.List.FromFn.{map-range_with_len_more}
use Rattle.std.proofs.lemmas.Bool.{cond-true, cond-false, eq-eqb, ne_eqb}
use Rattle.std.specs.List.{range_with_len}
use Rattle.algebra.specs.Order.{ceil_quot}
use Rattle.algebra.specs.Vectors.{sum}
use Rattle.algebra.proofs.Ring.{linear}
use Rattle.systems.specs.Tables.{Table}
use Rattle.enclosures.specs.RowSums.{magnitude, mignitude, entry_in, besides, excess_of, bound_of}

-- the excess of row i over its first j entries alone
unfoldable pub part_of : Table → ℕ → ℕ → ℤ
part_of t i j = mignitude (entry_in t i i) -ℤ sum (map (besides t i) (range_with_len 0 j))

sum_push : (xs : List ℤ) (y : ℤ) → sum (xs ++ y ∷ []) ≡ sum xs +ℤ y
unfolding sum
sum_push [] y = omega (arith, linear)
sum_push (x ∷ xs) y = let e = sum_push xs y in omega (arith, linear)

sum_more : (f : ℕ → ℤ) (j : ℕ) → sum (map f (range_with_len 0 (j + 1))) ≡ sum (map f (range_with_len 0 j)) +ℤ f j
sum_more f j = ap sum (map-range_with_len_more f 0 j j (omega arith)) ∙ sum_push (map f (range_with_len 0 j)) (f j)

pub besides_other : (t : Table) (i j : ℕ) → (j ≢ i) → magnitude (entry_in t i j) ≡ besides t i j
besides_other t i j apart = sym (cond-false (j == i) (pos 0) (magnitude (entry_in t i j)) (ne_eqb j i apart))

pub besides_diagonal : (t : Table) (i j : ℕ) → j ≡ i → pos 0 ≡ besides t i j
besides_diagonal t i j same = sym (cond-true (j == i) (pos 0) (magnitude (entry_in t i j)) (eq-eqb j i same))

module _ (t : Table) (i : ℕ) (g : ℤ) where
  pub part_none : g ≡ mignitude (entry_in t i i) → g ≡ part_of t i 0
  unfolding part_of sum
  part_none e = omega (arith, linear)

  pub part_more : (j : ℕ) (m h : ℤ) → m ≡ besides t i j → g ≡ part_of t i j → h ≡ g -ℤ m → h ≡ part_of t i (j + 1)
  unfolding part_of
  part_more j m h e so_far less = let more = sum_more (besides t i) j in omega (arith, linear)

  pub part_all : (j : ℕ) → j ≡ t.size → g ≡ part_of t i j → g ≡ excess_of t i
  unfolding part_of excess_of
  part_all j end so_far = so_far ∙ ap (λ n. mignitude (entry_in t i i) -ℤ sum (map (besides t i) (range_with_len 0 n))) end

-- ---- the bound of a row
pub bound_refused : (t : Table) (i : ℕ) → excess_of t i <ℤ pos 1 → bound_of t i ≡ Err (record { number = 8 })
unfolding bound_of
bound_refused t i h = cond-true (int_lt (excess_of t i) (pos 1)) _ _ (sym (omega (arith, ints)))

pub bound_made : (t : Table) (i : ℕ) (g m r : ℤ) → g ≡ excess_of t i → m ≡ magnitude (entry_in t i t.size) → pos 0 <ℤ g → r ≡ ceil_quot (m *ℤ pos 16384) g → bound_of t i ≡ Ok r
unfolding bound_of
bound_made t i g m r eg em positive er =
    cond-false (int_lt (excess_of t i) (pos 1)) _ _ (sym (omega (arith, ints))) ∙ ap Ok (sym (er ∙ (λ k. ceil_quot (em k *ℤ pos 16384) (eg k))))
