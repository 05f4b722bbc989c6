use Rattle.std.proofs.Common.{sym, ◌∙◌, subst}
use Rattle.systems.specs.declared.system.System.{System}
use Rattle.systems.specs.Tables.{table_of}
use Rattle.outcomes.specs.Searching.{start, run, step}
use Rattle.searches.specs.Lowest.{NeverBelow}
use Rattle.searches.specs.States.{state_of}
use Rattle.searches.proofs.Using.{solved_holds}
use Rattle.searches.proofs.lowest.solve.Goals as goal

pub returns-clause-holds : goal.returns-clause-holds
returns-clause-holds g c =
    let made = c.in_ok-search.ensures in
    let one = c.in_ok-start.ensures in
    let two = c.in_ok-report.ensures in
    let end = c.run.new.self in
    let system = two.same.system ∙ one.same.system in
    let method = two.same.method ∙ one.same.method in
    let rule = two.same.rule ∙ one.same.rule in
    let started = one.outcome ∙ (λ i. step (g.M.Enclosure.meaning (sym method i)) (g.R.Rule.answer (sym rule i)) (table_of (sym system i)) (start c.args.component) (made.0 i)) in
    let ran = two.outcome ∙ (λ i. step (g.M.Enclosure.meaning (sym two.same.method i)) (g.R.Rule.answer (sym two.same.rule i)) (table_of (sym two.same.system i)) (run c.args.budget) (state_of c.start.new.self)) in
    subst (λ (s : System). NeverBelow (table_of s) c.args.component c.in_ok-reading.reading.low) (system ∙ made.1)
    (solved_holds (g.M.Enclosure.meaning end.method) (g.R.Rule.answer end.rule) (table_of end.system) c.args.component c.args.budget c.in_ok-start.field-0 c.in_ok-reading.reading c.in_ok-report.report (state_of c.start.new.self) (state_of end) started ran c.in_ok-reading.ensures.promise)
