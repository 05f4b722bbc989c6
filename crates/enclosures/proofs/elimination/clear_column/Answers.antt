use Rattle.std.proofs.Common.{◌<◌, map, length, refl, ◌∙◌, arith}
use Rattle.std.proofs.lemmas.Result.{err_from_is_err_and}
use Rattle.algebra.specs.Chaining.{each}
use Rattle.enclosures.specs.Elimination.{reduced_of}
use Rattle.enclosures.specs.Working.{viewed}
use Rattle.enclosures.proofs.Views.{unchained, each_on, each_stop, each_end, rest_on}
use Rattle.enclosures.proofs.elimination.clear_column.Goals as goal

pub loop-line-init : goal.loop-line-init
loop-line-init c = (unchained (each (reduced_of (viewed c.args.pivot.now)) (map viewed c.args.lines.now)), refl)

pub loop-line-preserved : goal.loop-line-preserved
loop-line-preserved c =
    let l = c.loop-line in
    let f = reduced_of (viewed c.args.pivot.now) in
    let was = c.args.lines.now in
    let h : l.line-index < length l.lines = omega arith in
    let h' : l.line-index < length was = omega arith in (
      l.invariant.0 ∙ each_on f viewed viewed l.lines was l.line-index c.line-item.result c.in_ok-line.field-0 h h' l.invariant.1 c.in_ok-line.ensures,
      rest_on f viewed viewed l.lines was l.line-index c.line-item.result c.in_ok-line.field-0 h h' l.invariant.1,
    )

pub returns-in_err-line : goal.returns-in_err-line
returns-in_err-line c =
    let l = c.loop-line in
    let f = reduced_of (viewed c.args.pivot.now) in
    let was = c.args.lines.now in
    let h : l.line-index < length l.lines = omega arith in
    let h' : l.line-index < length was = omega arith in
    let q = err_from_is_err_and c.from_residual.result c.from_residual.ensures.1 in
    rw (q.1, q.2) (l.invariant.0 ∙ each_stop f viewed viewed l.lines was l.line-index c.line-item.result c.line-item.result h h' l.invariant.1 _ c.in_err-line.ensures)

pub returns : goal.returns
returns c =
    let l = c.loop-line in
    let f = reduced_of (viewed c.args.pivot.now) in
    l.invariant.0 ∙ each_end f viewed viewed l.lines c.args.lines.now l.line-index (omega arith) (omega arith)
