use Rattle.std.proofs.Common.{◌≡◌, ◌+◌, ◌-◌, List, map, length, take, drop, get_or, refl, sym, ap, ◌∙◌, length-drop, arith, rules}
use Rattle.std.proofs.lemmas.Result.{err_from_is_err_and}
use Rattle.std.proofs.lemmas.List.{take_all}
use Rattle.grains.specs.declared.interval.Interval.{Interval}
use Rattle.grains.specs.Arithmetic.{ends_of, quotient_of}
use Rattle.enclosures.specs.Elimination.{less_products}
use Rattle.enclosures.specs.Sweeps.{solved_for_viewed}
use Rattle.enclosures.proofs.sweep.solved_for.Goals as goal

pub returns-in_err-before : goal.returns-in_err-before
returns-in_err-before c =
    let e = solved_for_viewed c.args.line.now c.args.components.now c.args.i c.args.line.now.right c.requires.below c.requires.same in
    search rules

pub returns-in_err-rest : goal.returns-in_err-rest
returns-in_err-rest c =
    let cs = c.args.line.now.coefficients.items in
    let xs = c.args.components.now in
    let i = c.args.i in
    let e = solved_for_viewed c.args.line.now xs i c.args.line.now.right c.requires.below c.requires.same in
    let behind : (ys : List Interval) → drop (i + 1) ys ≡ take (length ys - (i + 1)) (drop (i + 1) ys) =
    λ ys. sym (take_all (length ys - (i + 1)) (drop (i + 1) ys) (simp length-drop (omega arith))) in
    let read = c.as_slice-coefficients.ensures.value in
    let first = ap (λ ys. less_products (ends_of c.args.line.now.right) (map ends_of (take i ys)) (map ends_of (take i xs))) (sym read) ∙ sym c.in_ok-before.ensures in
    let second = (λ k. less_products (ends_of c.in_ok-before.before) (map ends_of (behind cs k)) (map ends_of (behind xs k)))
    ∙ ap (λ ys. less_products (ends_of c.in_ok-before.before) (map ends_of (take (length ys - (i + 1)) (drop (i + 1) ys))) (map ends_of (take (length xs - (i + 1)) (drop (i + 1) xs)))) (sym read) ∙ sym c.in_err-rest.ensures in
    let q = err_from_is_err_and c.from_residual-in_err-rest.result c.from_residual-in_err-rest.ensures.1 in
    rw (q.1, q.2) (sym (e ∙ rw (first, second) refl))

pub returns : goal.returns
returns c =
    let cs = c.args.line.now.coefficients.items in
    let xs = c.args.components.now in
    let i = c.args.i in
    let x = c.index-coefficients-i.result in
    let e = solved_for_viewed c.args.line.now xs i x c.requires.below c.requires.same in
    let behind : (ys : List Interval) → drop (i + 1) ys ≡ take (length ys - (i + 1)) (drop (i + 1) ys) =
    λ ys. sym (take_all (length ys - (i + 1)) (drop (i + 1) ys) (simp length-drop (omega arith))) in
    let read = c.as_slice-coefficients.ensures.value in
    let first = ap (λ ys. less_products (ends_of c.args.line.now.right) (map ends_of (take i ys)) (map ends_of (take i xs))) (sym read) ∙ sym c.in_ok-before.ensures in
    let second = (λ k. less_products (ends_of c.in_ok-before.before) (map ends_of (behind cs k)) (map ends_of (behind xs k)))
    ∙ ap (λ ys. less_products (ends_of c.in_ok-before.before) (map ends_of (take (length ys - (i + 1)) (drop (i + 1) ys))) (map ends_of (take (length xs - (i + 1)) (drop (i + 1) xs)))) (sym read) ∙ sym c.in_ok-rest.ensures in
    let lead : get_or cs i x ≡ x = ap (λ ys. get_or ys i x) (sym read) ∙ sym c.index-coefficients-i.is in
    c.quotient.ensures ∙ sym (e ∙ rw (first, second) (ap (λ y. quotient_of (ends_of c.in_ok-rest.rest) (ends_of y)) lead))
