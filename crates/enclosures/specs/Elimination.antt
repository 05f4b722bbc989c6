-- Interval Gaussian elimination without exchanging rows.
use Rattle.std.specs.Prelude.{ℕ, zero, suc, ◌+◌, ◌*◌, cond, List, [], ◌∷◌, map, drop, pos, ◌*ℤ◌, Ok, Err, Result, slice_index_or}
use Rattle.std.specs.List.{range_with_len}
use Rattle.algebra.specs.Chaining.{and_then, each, each_with}
use Rattle.algebra.specs.Ends.{Ends, from_to}
use Rattle.grains.specs.Arithmetic.{product_of, difference_of, quotient_of, contains_zero}
use Rattle.grains.specs.declared.interval.ArithmeticError.{ArithmeticError}
use Rattle.grains.specs.declared.interval.ArithmeticError.TheVariants.{DivisorContainsZero}
use Rattle.systems.specs.Tables.{Table, ends_at}
use Rattle.enclosures.specs.Verdicts.{Verdict, verdict_of}

-- a row of working intervals: the coefficients of the unknowns that are left, and the right-hand side
pub record Row : Type 0 where
  pub coefficients : List Ends
  pub right : Ends

-- the coefficient of the first unknown that is left
abbrev pub lead : Row → Ends
lead r = slice_index_or r.coefficients 0 (from_to (pos 0) (pos 0))

-- a - m b
unfoldable pub less_multiple : Ends → Ends → Ends → Result Ends ArithmeticError
less_multiple m a b = and_then (product_of m b) (λ p. difference_of a p)

-- a row without its first unknown, by the pivot row: m is the quotient of the leading coefficients, and every other number loses m times the pivot row's
unfoldable pub reduced_of : Row → Row → Result Row ArithmeticError
reduced_of p r =
    and_then (quotient_of (lead r) (lead p)) (λ m.
    and_then (each_with (less_multiple m) (drop 1 r.coefficients) (drop 1 p.coefficients)) (λ cs.
    and_then (less_multiple m r.right p.right) (λ b.
    Ok (record { coefficients = cs; right = b }))))

-- b - a₁ x₁ - a₂ x₂ - ..
abbrev pub less_products : Ends → List Ends → List Ends → Result Ends ArithmeticError
less_products b [] xs = Ok b
less_products b (a ∷ as') [] = Ok b
less_products b (a ∷ as') (x ∷ xs) = and_then (less_multiple a b x) (λ d. less_products d as' xs)

-- the first unknown of a row, from the components of the others
unfoldable pub solved_of : Row → List Ends → Result Ends ArithmeticError
solved_of p xs = and_then (less_products p.right (drop 1 p.coefficients) xs) (λ d. quotient_of d (lead p))

-- the components of n rows of n unknowns: the first row is the pivot row; the others are reduced by it and solved, and then it is solved itself
unfoldable pub eliminated : ℕ → List Row → Result (List Ends) ArithmeticError
eliminated zero rows = Ok []
eliminated (suc n) [] = Ok []
eliminated (suc n) (p ∷ rows) =
    cond (contains_zero (lead p)) (Err DivisorContainsZero)
    (and_then (each (reduced_of p) rows) (λ rest.
    and_then (eliminated n rest) (λ xs.
    and_then (solved_of p xs) (λ x.
    Ok (x ∷ xs)))))

-- an entry in grains: 16384 make one
abbrev pub in_grains : Ends → Ends
in_grains e = from_to (e.low *ℤ pos 16384) (e.high *ℤ pos 16384)

-- entry j of row i of a table, both counted from 0: the coefficients, and then the right-hand side
abbrev pub working_at : Table → ℕ → ℕ → Ends
working_at t i j = in_grains (ends_at t (i * (t.size + 1) + j))

unfoldable pub row_of : Table → ℕ → Row
row_of t i = record { coefficients = map (working_at t i) (range_with_len 0 t.size); right = working_at t i t.size }

unfoldable pub elimination_of : Table → Verdict
elimination_of t = verdict_of (eliminated t.size (map (row_of t) (range_with_len 0 t.size)))
