use Rattle.std.proofs.Common.{◌≡◌, ◌-◌, pos}
use Rattle.std.specs.List.{range_with_len}
use Rattle.algebra.specs.Order.{Within}
use Rattle.systems.specs.Tables.{table_of}
use Rattle.enclosures.specs.RowSums.{bound_of}
use Rattle.enclosures.specs.Greatest.{reach}
use Rattle.enclosures.proofs.row_sums.greatest_bound.Given as goal

abbrev pub invariant-loop-row : goal.invariant-loop-row
invariant-loop-row l =
    (reach (bound_of (table_of l.system)) (pos 0) (range_with_len 0 (table_of l.system).size) ≡ reach (bound_of (table_of l.system)) l.alpha.0 (range_with_len l.row ((table_of l.system).size - l.row)))
    × Within (pos 0) (pos 1073741824) l.alpha.0
