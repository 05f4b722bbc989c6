-- Three of the laws of a method follow from one: bounds on every vector that solves a point system up to a scale, scale 0 included. Assumes nothing.
use Rattle.std.specs.Prelude.{◌≡◌, ◌≤◌, List, length, pos, Ok}
use Rattle.std.proofs.Common.{arith}
use Rattle.std.proofs.lemmas.List.FromFn.{length-map-range_with_len}
use Rattle.algebra.specs.Ends.{Ends}
use Rattle.algebra.specs.Solving.{Bounded}
use Rattle.algebra.proofs.Ring.{linear}
use Rattle.algebra.proofs.Solving.{regular, solution_within}
use Rattle.systems.specs.Points.{Proper, PointIn, point_row, point_rows}
use Rattle.systems.specs.Tables.{Table}
use Rattle.enclosures.specs.Methods.{component_of, Solvable, Agreed, Enclosed}
use Rattle.enclosures.specs.Verdicts.{Verdict}

abbrev pub Bounds : (Table → Verdict) → Type 0
Bounds v = (t : Table) (row : List Ends) → Proper t → v t ≡ Ok row → (P : PointIn t)
    → Bounded t.size (point_rows t.size P.numbers) (λ j. (component_of row j).low) (λ j. (component_of row j).high) (pos 16384)

few : (t : Table) (P : PointIn t) → length (point_rows t.size P.numbers) ≤ t.size
few t P = let n = length-map-range_with_len (point_row t.size P.numbers) 0 t.size in omega arith

module _ (v : Table → Verdict) (bounds : Bounds v) where
  pub solvable_from : Solvable v
  solvable_from t row proper e P = (regular t.size (point_rows t.size P.numbers) _ _ (pos 16384) (omega (arith, linear)) (bounds t row proper e P) (few t P)).some

  pub agreed_from : Agreed v
  agreed_from t row proper e P d p d' p' = (regular t.size (point_rows t.size P.numbers) _ _ (pos 16384) (omega (arith, linear)) (bounds t row proper e P) (few t P)).unique d p d' p'

  pub enclosed_from : Enclosed v
  enclosed_from t row proper e P d p solution j h =
      let w = solution_within t.size (point_rows t.size P.numbers) _ _ (pos 16384) (omega (arith, linear)) (bounds t row proper e P) d p solution j h in
      (w.low, w.high)
