use Rattle.std.proofs.Common.{◌≡◌, ◌-ℤ◌, arith}
use borrow.Author.Differences.{ints}
use Rattle.grains.specs.Arithmetic.{difference_of}
use Rattle.grains.proofs.Sizes.{back}
use Rattle.grains.proofs.interval.Interval.difference.Goals as goal

pub returns : goal.returns
unfolding difference_of
returns c =
    let x = c.args.self in
    let y = c.args.other in
    let low : back (back x.low -ℤ back y.high) ≡ x.low -ℤ y.high = omega (arith, ints) in
    let high : back (back x.high -ℤ back y.low) ≡ x.high -ℤ y.low = omega (arith, ints) in
    rw (low, high) at c.in_span.ensures
