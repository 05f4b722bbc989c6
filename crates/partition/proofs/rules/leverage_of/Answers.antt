use Rattle.std.proofs.Common.{◌≡◌, ◌+◌, ◌%◌, get_or, unwrap_or, sym, ap, ◌∙◌, arith}
use borrow.Author.Differences.{ints}
use Rattle.grains.specs.Arithmetic.{ends_of}
use Rattle.grains.proofs.Sizes.{back}
use Rattle.enclosures.specs.RowSums.{magnitude}
use Rattle.partition.proofs.Leverage.{leverage_read}
use Rattle.partition.proofs.rules.leverage_of.Goals as goal

pub returns : goal.returns
returns c =
    let column = c.args.place % (c.args.size + 1) in
    let row = c.args.row.now in
    let none = c.zero.result in
    let read : c.unwrap_or-interval.result ≡ get_or row column none = c.unwrap_or-interval.ensures ∙ ap (λ o. unwrap_or o none) c.copied.ensures ∙ c.get.ensures.lookup.4 (omega arith) none in
    let made = c.magnitude_of.ensures.value ∙ ap (λ y. magnitude (ends_of y)) read ∙ sym (leverage_read c.args.size c.args.place row (omega arith) none c.zero.ensures) in
    let same : back c.magnitude_of.result ≡ c.magnitude_of.result = omega (arith, ints, c.magnitude_of.ensures.bound) in
    record { value = same ∙ made; bound = omega (arith, ints, c.magnitude_of.ensures.bound) }
