use Rattle.std.proofs.Common.{◌≡◌, lit<, rules}
use Rattle.grains.specs.Arithmetic.{ends_of, product_of, least_product, greatest_product}
use Rattle.grains.proofs.Sizes.{least_product_small, greatest_product_small, products_ordered}
use Rattle.grains.proofs.interval.Interval.product.Goals as goal

pub floor_div-requires : goal.floor_div-requires
unfolding least_product
floor_div-requires c =
    let least : c.least_of-least.result ≡ least_product (ends_of c.args.self) (ends_of c.args.other) = search rules in
    record { nonzero = lit< tt; fits = least_product_small c.args.self c.args.other c.least_of-least.result least; by_fits = lit< tt }

pub ceil_div-requires : goal.ceil_div-requires
unfolding greatest_product
ceil_div-requires c =
    let greatest : c.greatest_of-greatest.result ≡ greatest_product (ends_of c.args.self) (ends_of c.args.other) = search rules in
    record { nonzero = lit< tt; fits = greatest_product_small c.args.self c.args.other c.greatest_of-greatest.result greatest; by_fits = lit< tt }

pub in_span-requires : goal.in_span-requires
unfolding least_product greatest_product
in_span-requires c =
    let least : c.least_of-least.result ≡ least_product (ends_of c.args.self) (ends_of c.args.other) = search rules in
    let greatest : c.greatest_of-greatest.result ≡ greatest_product (ends_of c.args.self) (ends_of c.args.other) = search rules in
    products_ordered (ends_of c.args.self) (ends_of c.args.other) c.least_of-least.result c.greatest_of-greatest.result c.floor_div.result c.ceil_div.result
    c.least_of-least.type_inv c.greatest_of-greatest.type_inv c.floor_div.type_inv c.ceil_div.type_inv
    least greatest c.floor_div.ensures.value c.ceil_div.ensures

pub returns : goal.returns
unfolding product_of least_product greatest_product
returns c =
    let least : c.least_of-least.result ≡ least_product (ends_of c.args.self) (ends_of c.args.other) = search rules in
    let greatest : c.greatest_of-greatest.result ≡ greatest_product (ends_of c.args.self) (ends_of c.args.other) = search rules in
    search rules
