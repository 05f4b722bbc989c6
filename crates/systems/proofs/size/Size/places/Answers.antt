use Rattle.std.proofs.Common.{refl}
use Rattle.systems.proofs.Contents.{places_few}
use Rattle.systems.proofs.size.Size.places.Goals as goal

pub returns : goal.returns
returns c = record { value = refl; bound = places_few c.args.self.rows c.args.self.few }
