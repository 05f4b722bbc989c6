use Rattle.std.proofs.Common.{◌≡◌, ◌-◌, ◌<◌, map, length, sym, ap, ◌∙◌, arith}
use Rattle.std.proofs.lemmas.List.{length-map}
use Rattle.std.proofs.lemmas.List.FromFn.{length-map-range_with_len}
use Rattle.grains.specs.Arithmetic.{ends_of}
use Rattle.systems.proofs.Tabled.{table_proper}
use Rattle.systems.specs.Tables.{table_of}
use Rattle.enclosures.specs.Elimination.{row_of, working_at}
use Rattle.enclosures.specs.Sweeping.{swept_from}
use Rattle.enclosures.specs.Sweeps.{swept_more, swept_all}
use Rattle.enclosures.proofs.sweep.narrow_all.Goals as goal

pub loop-i-preserved : goal.loop-i-preserved
loop-i-preserved c =
    let l = c.loop-i in
    let t = table_of c.args.system.now in
    let below : l.i < t.size = omega (arith, c.requires) in
    l.invariant ∙ swept_more t t.size l.i l.row c.narrowed.result c.new.result below c.new.ensures c.narrowed.ensures

pub narrowed-requires-clause-same : goal.narrowed-requires-clause-same
unfolding row_of
narrowed-requires-clause-same c =
    let t = table_of c.args.system.now in
    sym (length-map c.new.result.coefficients.items ends_of) ∙ ap (λ r. length r.coefficients) c.new.ensures
    ∙ length-map-range_with_len (working_at t c.loop-i.i) 0 t.size ∙ sym (c.loop-i.auto.row ∙ c.requires)

pub returns : goal.returns
returns c =
    let l = c.loop-i in
    let t = table_of c.args.system.now in
    let end : l.i ≡ t.size = omega (arith, c.requires) in
    sym (l.invariant ∙ ap (λ m. swept_from (t.size - m) m t (map ends_of l.row)) end ∙ swept_all t t.size (map ends_of l.row))

pub invariant_of-new : goal.invariant_of-new
invariant_of-new c =
    let below : c.loop-i.i < (table_of c.args.system.now).size = omega (arith, c.requires) in
    record { there = below; few = omega (arith, below, (table_proper c.args.system.now).few) }
