use Rattle.std.proofs.Common.{arith}
use borrow.Author.Differences.{ints}
use Rattle.std.proofs.lemmas.Int.{clamps}
use Rattle.systems.specs.Entries.{ends_of}
use Rattle.enclosures.specs.Absolutes.{mignitude_clamped}
use Rattle.enclosures.proofs.row_sums.mignitude.Goals as goal

pub returns : goal.returns
returns c = record { value = mignitude_clamped (ends_of c.args.entry) _ c.args.entry.ordered (omega (arith, ints, clamps)); small = omega (arith, ints, clamps) }
