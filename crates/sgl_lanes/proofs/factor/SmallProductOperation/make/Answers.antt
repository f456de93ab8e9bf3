-- The product with the height, less that with the height of 0, is the product with the number.
use Rattle.std.proofs.Common.{◌≡◌, ◌∙◌, ◌*◌, ◌<◌, pos, ◌-ℤ◌, w64, to_z, of_z, arith}
use Rattle.std.proofs.lemmas.Int.{ints}
use Rattle.sgl_lanes.proofs.Factors.{height_small, product_back}
use Rattle.sgl_lanes.proofs.factor.SmallProductOperation.make.Goals as goal

pub returns : goal.returns
returns c within =
    let factor = c.args.self.now.factor in
    let own = c.requires.ready in
    let height = c.height.result in
    let product : c.times-product.result ≡ height * factor.number = c.times-product.ensures.product (c.height.ensures.below within) in
    let small : height * factor.number < 2147483648 = height_small height factor.end factor.number own.from (c.height.ensures.below within) (omega (arith, own.product, own.small)) in
    let is : to_z w64 (of_z w64 (to_z w64 c.times-product.result -ℤ to_z w64 (of_z w64 c.from.result))) ≡ pos (height * factor.number) -ℤ pos (factor.end * factor.number) =
    omega (arith, ints, product, small, own.product, own.small, c.from.ensures) in
    c.number_in_range.ensures ∙ is ∙ product_back c.args.left height factor.end factor.number (c.height.ensures.height within)
