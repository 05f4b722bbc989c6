use Rattle.std.proofs.Common.{◌≡◌, ◌*ℤ◌, map, ap, ◌∙◌, arith}
use borrow.Author.Differences.{ints}
use Rattle.grains.specs.Arithmetic.{Figure, ends_of}
use Rattle.grains.proofs.Sizes.{back, back_ok, times_small}
use Rattle.partition.specs.Choosing.{width, leverage}
use Rattle.partition.proofs.rules.HeaviestWeigh.weigh.Goals as goal

pub overflow_mul-result : goal.overflow_mul-result
overflow_mul-result c =
    let p : Figure (back c.width_of.result) = record { above = omega (arith, ints, c.width_of.ensures.bound); below = omega (arith, ints, c.width_of.ensures.bound) } in
    let q : Figure (back c.leverage_of.result) = record { above = omega (arith, ints, c.leverage_of.ensures.bound); below = omega (arith, ints, c.leverage_of.ensures.bound) } in
    omega (arith, ints, times_small (back c.width_of.result) (back c.leverage_of.result) p q)

pub returns : goal.returns
returns c =
    let a = c.width_of.result in
    let b = c.leverage_of.result in
    let p : Figure a = record { above = omega (arith, ints, c.width_of.ensures.bound); below = omega (arith, ints, c.width_of.ensures.bound) } in
    let q : Figure b = record { above = omega (arith, ints, c.leverage_of.ensures.bound); below = omega (arith, ints, c.leverage_of.ensures.bound) } in
    let first = back_ok a c.width_of.type_inv in
    let second = back_ok b c.leverage_of.type_inv in
    let width_is = c.width_of.ensures.value ∙ ap width c.entry_or_zero.ensures in
    let leverage_is = c.leverage_of.ensures.value ∙ ap (λ n. leverage n (map ends_of c.args.row.now) c.args.place) c.size.ensures.value in
    let small = times_small a b p q in
    let whole : back (a *ℤ b) ≡ a *ℤ b = omega (arith, ints, small) in
    (λ k. back (first k *ℤ second k)) ∙ whole ∙ (λ k. width_is k *ℤ leverage_is k)
