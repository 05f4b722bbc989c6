use Rattle.std.proofs.Common.{◌≡◌, ◌*◌, pos, neg_ℤ}
use Rattle.algebra.specs.Order.{Within}
use Rattle.systems.specs.Tables.{table_of}
use Rattle.enclosures.specs.Excess.{part_of}
use Rattle.enclosures.proofs.row_sums.excess.Given as goal

abbrev pub invariant-loop-column : goal.invariant-loop-column
invariant-loop-column l = (l.g ≡ part_of (table_of l.equation.system.now) l.equation.row l.column) × Within (neg_ℤ (pos (65536 * l.column))) (pos 65536) l.g
