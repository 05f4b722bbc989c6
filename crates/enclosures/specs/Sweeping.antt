-- One Gauss-Seidel sweep over the row of another method.
use Rattle.std.specs.Prelude.{ℕ, zero, suc, ◌+◌, List, Ok, Err, Result, slice_set}
use Rattle.std.specs.Option.{unwrap_or}
use Rattle.std.specs.List.{remove}
use Rattle.algebra.specs.Chaining.{and_then}
use Rattle.algebra.specs.Ends.{Ends}
use Rattle.grains.specs.Arithmetic.{quotient_of, common_of}
use Rattle.grains.specs.declared.interval.ArithmeticError.{ArithmeticError}
use Rattle.systems.specs.Tables.{Table}
use Rattle.enclosures.specs.Elimination.{Row, less_products, row_of}
use Rattle.enclosures.specs.Methods.{component_of}
use Rattle.enclosures.specs.Verdicts.{Verdict}

-- a row solved for unknown i: the right-hand side less the products of the other coefficients and components, by rising index, over coefficient i
unfoldable pub solved_for : Row → ℕ → List Ends → Result Ends ArithmeticError
solved_for r i xs = and_then (less_products r.right (remove r.coefficients i) (remove xs i)) (λ d. quotient_of d (component_of r.coefficients i))

-- the common part of the old interval and the new one; the old one where a step had no answer
abbrev pub narrowed_by : Ends → Result Ends ArithmeticError → Ends
narrowed_by old (Ok new) = unwrap_or (common_of old new) old
narrowed_by old (Err e) = old

abbrev pub narrowed_at : Table → ℕ → List Ends → Ends
narrowed_at t i xs = narrowed_by (component_of xs i) (solved_for (row_of t i) i xs)

-- the row after the components from i on, as many as said, were narrowed one after the other
unfoldable pub swept_from : ℕ → ℕ → Table → List Ends → List Ends
swept_from zero i t xs = xs
swept_from (suc more) i t xs = swept_from more (i + 1) t (slice_set xs i (narrowed_at t i xs))

-- the sweep over a method: it refuses exactly where the method does, with its fault
unfoldable pub sweep_of : (Table → Verdict) → Table → Verdict
sweep_of v t = and_then (v t) (λ row. Ok (swept_from t.size 0 t row))
