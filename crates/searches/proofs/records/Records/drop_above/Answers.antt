use Rattle.std.proofs.Common.{◌≡◌, filter, sym, ap, ◌∙◌, w64, SFits, to_z, of_z, rules}
use lib.Signed.{le_z}
use Rattle.std.proofs.lemmas.List.Filters.{FiltersInPlace-all, FiltersInPlace-more_no, FiltersInPlace-more_set}
use Rattle.std.proofs.lemmas.Int.{to_z-of_z}
use Rattle.outcomes.specs.Waiting.{not_above, kept_below}
use Rattle.searches.proofs.records.Records.drop_above.Goals as goal
use Rattle.searches.proofs.records.Records.drop_above.Goals.{then-record-high, else-record-high}

pub loop-place-preserved : goal.loop-place-preserved
loop-place-preserved c =
    let x = c.index-record.result.now in
    let fits : SFits w64 x.low = search rules in
    let tests : le_z (to_z w64 (of_z w64 x.low)) (to_z w64 (of_z w64 c.args.high)) ≡ not_above (to_z w64 (of_z w64 c.args.high)) x = ap (λ z. le_z z (to_z w64 (of_z w64 c.args.high))) (to_z-of_z w64 x.low fits) in
    elim c.if-record-high.branch [
      | then-record-high w ↦ rw (w.self-inside-is, w.count-is) (FiltersInPlace-more_set c.loop-place.invariant (search rules) (sym tests ∙ w.if-record-high.true) c.index-record.ensures)
      | else-record-high w ↦ rw (w.self-inside-is, w.count-is) (FiltersInPlace-more_no c.loop-place.invariant (search rules) (sym tests ∙ w.if-record-high.false) c.index-record.ensures)
    ]

pub returns-clause-items : goal.returns-clause-items
unfolding kept_below
returns-clause-items c =
    c.truncate.ensures.items
    ∙ FiltersInPlace-all c.loop-place.invariant (search rules)
    ∙ (λ i. filter (not_above (to_z-of_z w64 c.args.high c.ranges.high i)) (c.self.view_is i))
