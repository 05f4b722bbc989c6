use Rattle.std.proofs.Common.{◌≡◌, ◌⊎◌, length, inl, inr, sym, ◌∙◌}
use Rattle.std.proofs.lemmas.Result.{err_from_is_err_and}
use Rattle.grains.specs.Arithmetic.{ends_of}
use Rattle.enclosures.proofs.Views.{products_on, products_stop, products_end}
use Rattle.enclosures.proofs.working.less_products.Goals as goal

pub loop-coefficient-preserved : goal.loop-coefficient-preserved
loop-coefficient-preserved c =
    let l = c.loop-coefficient in
    let steps = c.in-Some.ensures.steps in
    ((tt, tt), tt, l.invariant.2 ∙ products_on (ends_of l.rest) l.coefficient-iterator.a.rest.now l.coefficient-iterator.b.rest.now _ _ _ _ steps.0 steps.1 (ends_of c.in_ok-rest.rest) c.in_ok-rest.ensures)

pub returns-in_err-rest : goal.returns-in_err-rest
returns-in_err-rest c =
    let l = c.loop-coefficient in
    let steps = c.in-Some.ensures.steps in
    let q = err_from_is_err_and c.from_residual.result c.from_residual.ensures.1 in
    rw (q.1, q.2) (sym (l.invariant.2 ∙ products_stop (ends_of l.rest) l.coefficient-iterator.a.rest.now l.coefficient-iterator.b.rest.now _ _ _ _ steps.0 steps.1 _ c.in_err-rest.ensures))

pub returns : goal.returns
returns c =
    let l = c.loop-coefficient in
    let over : (length l.coefficient-iterator.a.rest.now ≡ 0) ⊎ (length l.coefficient-iterator.b.rest.now ≡ 0) = elim c.in-None.ensures.steps [ inl k ↦ inl k.1.0 | inr k ↦ inr k.1.0 ] in
    sym (l.invariant.2 ∙ products_end (ends_of l.rest) l.coefficient-iterator.a.rest.now l.coefficient-iterator.b.rest.now over)
