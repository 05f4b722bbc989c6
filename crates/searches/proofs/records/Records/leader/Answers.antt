use Rattle.std.proofs.Common.{rules}
use Rattle.std.proofs.lemmas.Iterator.{YieldsList-from_slice}
use Rattle.std.proofs.lemmas.Iterator.Consumers.{YieldsList-at, YieldsList-from_enumerate}
use Rattle.searches.proofs.Leading.{leader}
use Rattle.searches.proofs.records.Records.leader.Goals as goal

pub returns : goal.returns
returns c = leader _ _ _ _ c.args.self.now (λ x k q e. search rules) c.min_by_key.ensures.ran
    (YieldsList-from_enumerate (YieldsList-at c.enumerate.ensures.source (YieldsList-from_slice c.args.self.now (cc))) c.enumerate.ensures.count)
