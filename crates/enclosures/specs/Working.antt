-- What a line of the code says: the row of elimination that it holds.
use Rattle.std.specs.Prelude.{map}
use Rattle.grains.specs.Arithmetic.{ends_of}
use Rattle.enclosures.specs.declared.line.Line.{Line}
use Rattle.enclosures.specs.Elimination.{Row}

abbrev pub viewed : Line → Row
viewed l = record { coefficients = map ends_of l.coefficients.items; right = ends_of l.right }
