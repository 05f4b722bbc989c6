use Rattle.std.proofs.Common.{neg_ℤ, arith}
use borrow.Author.Differences.{ints}
use Rattle.algebra.specs.Ends.{from_to}
use Rattle.enclosures.proofs.Scales.{some_made, value_made}
use Rattle.enclosures.specs.Roundings.{made_around_zero}
use Rattle.enclosures.proofs.row_sums.Radius.around_zero.Goals as goal

pub unwrap-requires : goal.unwrap-requires
unwrap-requires c =
    let a = c.args.self.grains in
    some_made c.new.result (from_to (neg_ℤ a) a) (made_around_zero a c.new.result _ _ (omega (arith, ints)) (omega (arith, ints)) c.args.self.within c.new.ensures)

pub returns : goal.returns
returns c =
    let a = c.args.self.grains in
    value_made c.new.result (from_to (neg_ℤ a) a) c.unwrap.result (made_around_zero a c.new.result _ _ (omega (arith, ints)) (omega (arith, ints)) c.args.self.within c.new.ensures) c.unwrap.ensures
