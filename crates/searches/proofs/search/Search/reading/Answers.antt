use Rattle.std.proofs.Common.{◌≡◌, Some, sym, ap, subst}
use Rattle.systems.specs.Tables.{table_of}
use Rattle.systems.proofs.Tabled.{table_proper}
use Rattle.outcomes.specs.declared.reading.Reading.{Reading}
use Rattle.outcomes.specs.Promise.{Reached, Kept}
use Rattle.outcomes.specs.Searching.{State}
use Rattle.searches.specs.States.{started_from, state_from, state_of}
use Rattle.outcomes.proofs.Histories.{promise}
use Rattle.searches.proofs.search.Search.reading.Goals as goal

pub returns-clause-promise : goal.returns-clause-promise
returns-clause-promise g c h reached =
    let own = c.args.self.now in
    let v = g.M.Enclosure.meaning own.method in
    let r = g.R.Rule.answer own.rule in
    let t = table_of own.system in
    let s = started_from c.in_ok-progress.progress own.waiting in
    let started : state_of own ≡ Some s = ap (λ q. state_from q own.waiting) c.in_ok-progress.ensures.ok_part in
    let laws = g.met.M.Enclosure in
    subst (λ (x : Reading). Kept v r t h x) (sym c.reading_of.ensures)
    (promise v r t (table_proper own.system) (laws.solvable own.method) (laws.agreed own.method) (laws.enclosed own.method) (laws.narrowing own.method) (g.met.R.Rule.place own.rule) s h (subst (λ (z : State). Reached v r t h z) started reached))
