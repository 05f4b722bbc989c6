use Rattle.std.proofs.Common.{◌≡◌, map}
use Rattle.std.specs.List.{range_with_len}
use Rattle.systems.specs.Tables.{table_of}
use Rattle.enclosures.specs.Elimination.{row_of}
use Rattle.enclosures.specs.Working.{viewed}
use Rattle.enclosures.proofs.elimination.lines.Given as goal

abbrev pub invariant-loop-row : goal.invariant-loop-row
invariant-loop-row l = map viewed l.lines.items ≡ map (row_of (table_of l.system)) (range_with_len 0 l.row)
