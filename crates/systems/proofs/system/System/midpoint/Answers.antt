use Rattle.std.proofs.Common.{◌<◌, ◌∙◌, length, take, drop, map, ap, arith}
use Rattle.std.proofs.lemmas.List.{take_all, length-take-le}
use Rattle.systems.specs.Entries.{ends_of, middle}
use Rattle.systems.proofs.Walks.{changed_front, changed_rest, front_whole, midpoint_tabled}
use Rattle.systems.proofs.system.System.midpoint.Goals as goal

pub loop-entry-preserved : goal.loop-entry-preserved
loop-entry-preserved c =
    let l = c.loop-entry in
    let was = take c.places.result c.args.self.now.draft.entries in
    let h : l.entry-index < length l.entry-items = omega arith in (
      changed_front ends_of (λ e. middle (ends_of e)) l.entry-items was l.entry-index c.entry-item.result c.midpoint.result h c.loop-entry-test.true l.invariant.1 l.invariant.0 c.midpoint.ensures,
      changed_rest ends_of (λ e. middle (ends_of e)) l.entry-items was l.entry-index c.entry-item.result c.midpoint.result h c.loop-entry-test.true l.invariant.1,
    )

pub returns : goal.returns
returns c =
    let l = c.loop-entry in
    let d = c.args.self.now.draft in
    let n = c.places.result in
    let long = length-take-le n d.entries (omega (arith, d.full)) in
    let all = front_whole ends_of n l.entry-index l.entry-items (drop n d.entries) _ (omega (arith, long)) (l.auto.entry-items ∙ long) l.invariant.0
    ∙ ap (map (λ e. middle (ends_of e))) (take_all l.entry-index (take n d.entries) c.loop-entry-test.false) in
    c.of.ensures ∙ midpoint_tabled d.size.rows _ d.entries (rw (← c.places.ensures.value) all)
