use Rattle.std.proofs.Common.{sym, ap, ◌∙◌}
use Rattle.systems.specs.Tables.{table_of}
use Rattle.systems.proofs.Tabled.{table_proper}
use Rattle.outcomes.specs.Searching.{place_in}
use Rattle.searches.proofs.Rows.{placed, place_read}
use Rattle.searches.proofs.search.Search.place_by.Goals as goal

pub returns : goal.returns
returns g c =
    c.ok_or.ensures.value ∙ placed c.choose.result ∙ ap place_in c.choose.ensures
    ∙ place_read (g.R.Rule.answer c.args.self.now.rule) (table_of c.args.inner.now) _ _ c.size.result (λ row e. (g.met.M.Enclosure.shaped c.args.self.now.method _ row (table_proper c.args.inner.now) e).complete ∙ sym c.size.ensures.value) c.in_ok-row.ensures
