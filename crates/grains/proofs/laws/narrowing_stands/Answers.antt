use Rattle.grains.proofs.Narrowing.{product_narrows, difference_narrows, quotient_narrows, common_narrows}
use Rattle.grains.proofs.laws.narrowing_stands.Goals as goal

pub returns : goal.returns
returns c = record { product = product_narrows; difference = difference_narrows; quotient = quotient_narrows; common = common_narrows }
