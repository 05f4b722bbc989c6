use Rattle.systems.specs.Entries.{ends_of as entry_ends}
use Rattle.enclosures.specs.Elimination.{in_grains}
use Rattle.enclosures.proofs.Scales.{made_in_grains, some_made, value_made}
use Rattle.enclosures.proofs.scaling.in_grains.Goals as goal

pub unwrap-requires : goal.unwrap-requires
unwrap-requires c =
    some_made c.new.result (in_grains (entry_ends c.args.entry))
    (made_in_grains c.args.entry c.new.result c.low.result c.high.result c.scaled.result c.scaled-2.result
    c.low.type_inv c.high.type_inv c.scaled.type_inv c.scaled-2.type_inv c.low.ensures c.high.ensures c.scaled.ensures c.scaled-2.ensures c.new.ensures)

pub returns : goal.returns
returns c =
    value_made c.new.result (in_grains (entry_ends c.args.entry)) c.unwrap.result
    (made_in_grains c.args.entry c.new.result c.low.result c.high.result c.scaled.result c.scaled-2.result
    c.low.type_inv c.high.type_inv c.scaled.type_inv c.scaled-2.type_inv c.low.ensures c.high.ensures c.scaled.ensures c.scaled-2.ensures c.new.ensures)
    c.unwrap.ensures
