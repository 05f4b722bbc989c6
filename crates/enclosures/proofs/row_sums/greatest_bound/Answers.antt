use Rattle.std.proofs.Common.{◌≡◌, ◌<◌, pos, ◌<ℤ◌, cond, Ordering, Less, Equal, Greater, sym, ap, ◌∙◌, arith}
use borrow.Author.Differences.{ints}
use Rattle.std.proofs.lemmas.Result.{err_from_is_err_and}
use Rattle.std.proofs.lemmas.Int.{clamps}
use Rattle.std.specs.Cmp.{int_ranks}
use Rattle.std.specs.Int.{int_max}
use Rattle.std.specs.Ordering.{MatchOrdering, is_lt}
use Rattle.systems.specs.Tables.{table_of}
use Rattle.enclosures.specs.RowSums.{bound_of, greatest_bound}
use Rattle.enclosures.specs.declared.row_sums.Radius.{Radius}
use Rattle.enclosures.specs.Greatest.{reach_none, reach_step, reach_refused, reach_all}
use Rattle.enclosures.proofs.row_sums.greatest_bound.Goals as goal

greater : (a b : Radius) (o : Ordering) → MatchOrdering o (b.grains <ℤ a.grains) (b.grains ≡ a.grains) (a.grains <ℤ b.grains) → (cond (is_lt o) a b).grains ≡ int_max a.grains b.grains
greater a b Less h = omega (arith, ints, clamps)
greater a b Equal h = omega (arith, ints, clamps)
greater a b Greater h = omega (arith, ints, clamps)

pub loop-row-init : goal.loop-row-init
loop-row-init c = let t = table_of c.args.system.now in (reach_none (bound_of t) (pos 0) 0 t.size, omega (arith, ints))

pub loop-row-preserved : goal.loop-row-preserved
loop-row-preserved c =
    let t = table_of c.args.system.now in
    let l = c.loop-row in
    let next = c.in_ok-next.next in
    let below : l.row < t.size = omega (arith, c.size-row-end.ensures.value) in
    let is : c.max-alpha.result.grains ≡ int_max l.alpha.0 next.grains = ap (λ r. r.grains) c.max-alpha.ensures ∙ greater _ next _ (int_ranks next.grains l.alpha.0) in
    (l.invariant.0 ∙ reach_step (bound_of t) l.alpha.0 l.row t.size next.grains c.max-alpha.result.grains below (sym c.in_ok-next.ensures) is, c.max-alpha.result.within)

pub returns : goal.returns
unfolding greatest_bound
returns c =
    let t = table_of c.args.system.now in
    let l = c.loop-row in
    let end : l.row ≡ t.size = omega (arith, c.size-row-end.ensures.value) in
    sym (l.invariant.0 ∙ reach_all (bound_of t) _ l.row t.size end)

pub returns-in_err-next : goal.returns-in_err-next
unfolding greatest_bound
returns-in_err-next c =
    let t = table_of c.args.system.now in
    let l = c.loop-row in
    let below : l.row < t.size = omega (arith, c.size-row-end.ensures.value) in
    let stops = l.invariant.0 ∙ reach_refused (bound_of t) _ l.row t.size c.in_err-next.field-0.0 below (sym c.in_err-next.ensures) in
    let q = err_from_is_err_and c.from_residual.result c.from_residual.ensures.1 in
    rw (q.1, q.2) (sym stops)
