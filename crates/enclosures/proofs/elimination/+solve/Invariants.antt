use Rattle.std.proofs.Common.{length}
use Rattle.enclosures.proofs.elimination.+solve.Given as goal

abbrev pub decreases-solve : goal.decreases-solve
decreases-solve l = length l.lines.now
