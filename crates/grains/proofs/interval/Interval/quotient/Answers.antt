use Rattle.std.proofs.Common.{◌≡◌, rules}
use Rattle.grains.specs.Arithmetic.{ends_of, quotient_of, least_quotient, greatest_quotient, quotient_down, quotient_up}
use Rattle.grains.proofs.Sizes.{low_apart, high_apart, quotients_ordered}
use Rattle.grains.proofs.interval.Interval.quotient.Goals as goal

pub corners-requires-clause-low_low : goal.corners-requires-clause-low_low
corners-requires-clause-low_low c = let apart = low_apart c.args.divisor _ c.contains_zero.ensures c.if-contains_zero.false in search rules

pub corners-requires-clause-low_high : goal.corners-requires-clause-low_high
corners-requires-clause-low_high c = let apart = high_apart c.args.divisor _ c.contains_zero.ensures c.if-contains_zero.false in search rules

pub corners-requires-clause-high_low : goal.corners-requires-clause-high_low
corners-requires-clause-high_low c = let apart = low_apart c.args.divisor _ c.contains_zero.ensures c.if-contains_zero.false in search rules

pub corners-requires-clause-high_high : goal.corners-requires-clause-high_high
corners-requires-clause-high_high c = let apart = high_apart c.args.divisor _ c.contains_zero.ensures c.if-contains_zero.false in search rules

pub corners-requires-2-clause-low_low : goal.corners-requires-2-clause-low_low
corners-requires-2-clause-low_low c = let apart = low_apart c.args.divisor _ c.contains_zero.ensures c.if-contains_zero.false in search rules

pub corners-requires-2-clause-low_high : goal.corners-requires-2-clause-low_high
corners-requires-2-clause-low_high c = let apart = high_apart c.args.divisor _ c.contains_zero.ensures c.if-contains_zero.false in search rules

pub corners-requires-2-clause-high_low : goal.corners-requires-2-clause-high_low
corners-requires-2-clause-high_low c = let apart = low_apart c.args.divisor _ c.contains_zero.ensures c.if-contains_zero.false in search rules

pub corners-requires-2-clause-high_high : goal.corners-requires-2-clause-high_high
corners-requires-2-clause-high_high c = let apart = high_apart c.args.divisor _ c.contains_zero.ensures c.if-contains_zero.false in search rules

pub in_span-requires : goal.in_span-requires
unfolding least_quotient greatest_quotient quotient_down quotient_up
in_span-requires c =
    let low : c.least_of-low.result ≡ least_quotient (ends_of c.args.self) (ends_of c.args.divisor) = search rules in
    let high : c.greatest_of-high.result ≡ greatest_quotient (ends_of c.args.self) (ends_of c.args.divisor) = search rules in
    quotients_ordered (ends_of c.args.self) (ends_of c.args.divisor) c.least_of-low.result c.greatest_of-high.result
    c.least_of-low.type_inv c.greatest_of-high.type_inv (low_apart c.args.divisor _ c.contains_zero.ensures c.if-contains_zero.false) low high

pub returns : goal.returns
unfolding quotient_of least_quotient greatest_quotient quotient_down quotient_up
returns c =
    let low : c.least_of-low.result ≡ least_quotient (ends_of c.args.self) (ends_of c.args.divisor) = search rules in
    let high : c.greatest_of-high.result ≡ greatest_quotient (ends_of c.args.self) (ends_of c.args.divisor) = search rules in
    search rules
