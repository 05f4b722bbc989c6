use Rattle.std.proofs.Common.{◌≡◌, map}
use Rattle.std.specs.List.{range_with_len}
use Rattle.grains.specs.Arithmetic.{ends_of}
use Rattle.systems.specs.Tables.{table_of}
use Rattle.enclosures.specs.Elimination.{working_at}
use Rattle.enclosures.proofs.line.Line.new.Given as goal

abbrev pub invariant-loop-entry : goal.invariant-loop-entry
invariant-loop-entry l = map ends_of l.coefficients.items ≡ map (working_at (table_of l.equation.system.now) l.equation.row) (range_with_len 0 l.entry-index)
