use Rattle.std.proofs.Common.{unwrap_or, ap, ◌∙◌, Ok, arith}
use Rattle.grains.specs.Arithmetic.{ends_of}
use Rattle.searches.proofs.Rows.{component_read}
use Rattle.searches.proofs.search.Search.figures.Goals as goal

pub returns : goal.returns
returns g c =
    ap (λ x. Ok (ends_of x)) (c.unwrap_or.ensures ∙ ap (λ o. unwrap_or o c.zero.result) c.copied.ensures ∙ c.get.ensures.lookup.4 (omega arith) c.zero.result)
    ∙ component_read _ c.zero.result _ c.args.component c.zero.ensures c.in_ok-row.ensures
