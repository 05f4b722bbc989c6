use Rattle.std.proofs.Common.{map}
use Rattle.grains.specs.Arithmetic.{ends_of}
use Rattle.systems.specs.Tables.{table_of}
use Rattle.partition.specs.Choosing.{wide_at, best_below}
use Rattle.partition.specs.Scanning.{Keeps}
use Rattle.partition.proofs.rules.scan.Given as goal

abbrev pub invariant-loop-place : goal.invariant-loop-place
invariant-loop-place g l =
    Keeps (g.W.Weigh.weight l.weigher (table_of l.system) (map ends_of l.row)) l.best
    (best_below (wide_at (table_of l.system)) (g.W.Weigh.weight l.weigher (table_of l.system) (map ends_of l.row)) l.place)
