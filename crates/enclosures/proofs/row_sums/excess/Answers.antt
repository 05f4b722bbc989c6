use Rattle.std.proofs.Common.{◌≡◌, pos, sym, ap, ◌∙◌, arith}
use borrow.Author.Differences.{ints}
use Rattle.systems.specs.Tables.{table_of}
use Rattle.enclosures.specs.RowSums.{magnitude, mignitude}
use Rattle.enclosures.specs.Excess.{besides_diagonal, besides_other, part_none, part_more, part_all}
use Rattle.enclosures.proofs.Rows.{row_long, entry_seen}
use Rattle.enclosures.proofs.row_sums.excess.Goals as goal
use Rattle.enclosures.proofs.row_sums.excess.Goals.{then-column-equation, else-column-equation}

pub loop-column-init : goal.loop-column-init
loop-column-init c =
    let e = c.args.equation.now in
    (part_none (table_of e.system.now) e.row _ (omega (arith, ints) ∙ c.mignitude-g.ensures.value ∙ ap mignitude c.diagonal.ensures), omega (arith, ints))

pub loop-column-preserved : goal.loop-column-preserved
loop-column-preserved c =
    let i = c.args.equation.now.row in
    let t = table_of c.args.equation.now.system.now in
    let l = c.loop-column in
    let es = c.coefficients-entry-items.result.now in
    let read = c.coefficients-entry-items.ensures.value in
    let long = row_long t i t.size es read in
    let seen = entry_seen t i t.size es read l.column c.entry-item.result (omega (arith, long)) c.entry-item.is in
    let so_far = sym l.g-is ∙ l.invariant.0 in
    elim c.if-column-equation.branch [
      | then-column-equation v ↦
          let other = v.magnitude-g.ensures.value ∙ ap magnitude seen ∙ besides_other t i l.column v.if-column-equation.true in
          (part_more t i l.g l.column v.magnitude-g.result _ other so_far (omega (arith, ints, v.g-is)), omega (arith, ints, v.g-is))
      | else-column-equation v ↦
          (part_more t i l.g l.column (pos 0) _ (besides_diagonal t i l.column v.if-column-equation.false) so_far (omega (arith, ints, v.g-is)), omega (arith, ints, v.g-is))
    ]

pub returns : goal.returns
returns c =
    let i = c.args.equation.now.row in
    let t = table_of c.args.equation.now.system.now in
    let long = row_long t i t.size c.coefficients-entry-items.result.now c.coefficients-entry-items.ensures.value in
    let end : c.loop-column.column ≡ t.size = omega (arith, long) in
    record { value = part_all t i _ c.loop-column.column end c.loop-column.invariant.0; small = omega (arith, ints, c.coefficients-entry-items.ensures.few) }
