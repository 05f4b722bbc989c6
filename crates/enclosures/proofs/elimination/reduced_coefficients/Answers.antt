use Rattle.std.proofs.Common.{◌≡◌, ◌<◌, ◌⊎◌, ◌++◌, ◌∷◌, [], map, length, Ok, inl, inr, sym, ap, ◌∙◌, length-append, arith, rules}
use Rattle.std.proofs.lemmas.List.{map-append, length-map}
use Rattle.std.proofs.lemmas.Result.{err_from_is_err_and}
use Rattle.algebra.specs.Chaining.{and_then, each_with}
use Rattle.grains.specs.Arithmetic.{ends_of}
use Rattle.enclosures.specs.Elimination.{less_multiple}
use Rattle.enclosures.proofs.Views.{unchained, pairs_on, pairs_stop, pairs_end}
use Rattle.enclosures.proofs.elimination.reduced_coefficients.Goals as goal

pub loop-old-init : goal.loop-old-init
loop-old-init c =
    let f = less_multiple (ends_of c.args.m) in
    let it = c.into_iter-old-iterator.result in
    let first : c.args.line.now ≡ it.a.rest.now = search rules in
    let second : c.args.pivot.now ≡ it.b.rest.now = search rules in
    let none : c.new-coefficients.result.items ≡ [] = search rules in
    let many = ap length first in
    let few = ap length none in (
      (tt, tt),
      tt,
      (λ i. each_with f (map ends_of (first i)) (map ends_of (second i)))
          ∙ unchained (each_with f (map ends_of it.a.rest.now) (map ends_of it.b.rest.now))
          ∙ ap (λ xs. and_then (each_with f (map ends_of it.a.rest.now) (map ends_of it.b.rest.now)) (λ ys. Ok (map ends_of xs ++ ys))) (sym none),
      omega (arith, c.requires, many, few),
    )

pub loop-old-preserved : goal.loop-old-preserved
loop-old-preserved c =
    let l = c.loop-old in
    let it = l.old-iterator in
    let on = c.next.new.self in
    let f = less_multiple (ends_of c.args.m) in
    let steps = c.in-Some.ensures.steps in
    let z = c.in_ok-less_multiple.field-0 in
    let pushed : c.push.new.self.items ≡ l.coefficients.items ++ z ∷ [] = search rules in
    let many = ap length (steps.0) in
    let more = ap length pushed ∙ length-append l.coefficients.items (z ∷ []) in (
      (tt, tt),
      tt,
      l.invariant.2 ∙ pairs_on f (map ends_of l.coefficients.items) (map ends_of it.a.rest.now) (map ends_of it.b.rest.now)
          (ends_of c.in-Some.old.now) (ends_of c.in-Some.by.now) (map ends_of on.a.rest.now) (map ends_of on.b.rest.now)
          (ap (map ends_of) steps.0) (ap (map ends_of) steps.1) (ends_of z) c.in_ok-less_multiple.ensures
          ∙ ap (λ xs. and_then (each_with f (map ends_of on.a.rest.now) (map ends_of on.b.rest.now)) (λ ys. Ok (xs ++ ys)))
          (sym (ap (map ends_of) pushed ∙ map-append ends_of l.coefficients.items (z ∷ []))),
      omega (arith, l.invariant.3, many, more),
    )

pub push-requires : goal.push-requires
push-requires c =
    let many = ap length c.in-Some.ensures.steps.0 in
    let room : length c.loop-old.coefficients.items < 6 = omega (arith, c.loop-old.invariant.3, many) in
    search rules

pub returns-in_err-less_multiple : goal.returns-in_err-less_multiple
returns-in_err-less_multiple c =
    let l = c.loop-old in
    let it = l.old-iterator in
    let on = c.next.new.self in
    let steps = c.in-Some.ensures.steps in
    let q = err_from_is_err_and c.from_residual.result c.from_residual.ensures.1 in
    rw (q.1, q.2) (sym (l.invariant.2 ∙ pairs_stop (less_multiple (ends_of c.args.m)) (map ends_of l.coefficients.items) (map ends_of it.a.rest.now) (map ends_of it.b.rest.now)
    (ends_of c.in-Some.old.now) (ends_of c.in-Some.by.now) (map ends_of on.a.rest.now) (map ends_of on.b.rest.now)
    (ap (map ends_of) steps.0) (ap (map ends_of) steps.1) _ c.in_err-less_multiple.ensures))

pub returns : goal.returns
returns c =
    let l = c.loop-old in
    let it = l.old-iterator in
    let over : (length (map ends_of it.a.rest.now) ≡ 0) ⊎ (length (map ends_of it.b.rest.now) ≡ 0) = elim c.in-None.ensures.steps [
      | inl k ↦ inl (simp length-map k.1.0)
      | inr k ↦ inr (simp length-map k.1.0)
    ] in
    sym (l.invariant.2 ∙ pairs_end (less_multiple (ends_of c.args.m)) (map ends_of l.coefficients.items) (map ends_of it.a.rest.now) (map ends_of it.b.rest.now) over)
