use Rattle.outcomes.proofs.Histories.{promise}
use Rattle.outcomes.proofs.laws.histories_keep.Goals as goal

pub returns : goal.returns
returns c = promise
