use Rattle.grains.proofs.Containment.{product_holds, difference_holds, divisor_apart, quotient_holds, common_holds}
use Rattle.grains.proofs.laws.containment_stands.Goals as goal

pub returns : goal.returns
returns c = record { product = product_holds; difference = difference_holds; apart = divisor_apart; quotient = quotient_holds; common = common_holds }
