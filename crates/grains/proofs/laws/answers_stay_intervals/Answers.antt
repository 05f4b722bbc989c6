use Rattle.grains.proofs.Narrowing.{operations_stay}
use Rattle.grains.proofs.laws.answers_stay_intervals.Goals as goal

pub returns : goal.returns
returns c = operations_stay
