use Rattle.std.proofs.Common.{◌≡◌, sym, ◌∙◌, arith}
use Rattle.searches.specs.States.{started_from}
use Rattle.searches.proofs.Running.{runs_more, runs_refused, runs_all, same_again, tried_there}
use Rattle.searches.proofs.search.Search.run_on.Goals as goal

pub loop-made-preserved : goal.loop-made-preserved
loop-made-preserved g c =
    let inv = c.loop-made.invariant in
    let done = c.in-Ok.ensures in
    let asked = tried_there g.M.Enclosure.meaning g.R.Rule.answer _ _ _ inv.same inv.holds in record {
      holds = done.outcome.1;
      same = same_again _ _ _ inv.same done.same;
      runs = runs_more _ _ _ _ _ _ _ _ inv.runs (omega arith) (sym asked ∙ done.outcome.0);
    }

pub returns-in-Err-clause-outcome : goal.returns-in-Err-clause-outcome
returns-in-Err-clause-outcome g c =
    let inv = c.loop-made.invariant in
    let done = c.in-Err.ensures.outcome in
    let asked = tried_there g.M.Enclosure.meaning g.R.Rule.answer _ _ _ inv.same inv.holds in
    (λ i. (c.loop-made.made, started_from c.loop-made.current (done.1 i).waiting)) ∙ runs_refused _ _ _ _ _ _ _ _ inv.runs (sym asked ∙ done.0)

pub returns-clause-outcome : goal.returns-clause-outcome
returns-clause-outcome g c =
    let end : c.args.budget ≡ c.loop-made.made = omega arith in
    (λ i. (end i, started_from c.loop-made.current c.loop-made.self.waiting)) ∙ runs_all _ _ _ _ _ _ _ c.loop-made.invariant.runs (omega arith)
