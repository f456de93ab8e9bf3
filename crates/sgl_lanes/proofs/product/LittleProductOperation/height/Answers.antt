-- Where all bits of both heights together are below the end, both are; such numbers are short, and their product is near.
use Rattle.std.proofs.Common.{◌≤◌, bit_or, arith}
use Rattle.std.proofs.lemmas.Nat.{le_or_l, le_or_r}
use Rattle.sgl_lanes.specs.Lanes.{IsWithin}
use Rattle.sgl_lanes.proofs.Factors.{little_short, product_near}
use Rattle.sgl_lanes.proofs.product.LittleProductOperation.height.Goals as goal

pub returns : goal.returns
returns c small =
    let first : c.height.result ≤ bit_or c.height.result c.height-2.result = le_or_l c.height.result c.height-2.result in
    let second : c.height-2.result ≤ bit_or c.height.result c.height-2.result = le_or_r c.height.result c.height-2.result in
    let left : IsWithin 524288 c.args.left = c.height.ensures (omega (arith, first, small)) in
    let right : IsWithin 524288 c.args.right = c.height-2.ensures (omega (arith, second, small)) in
    record { left = little_short c.args.left left; right = little_short c.args.right right; near = product_near c.args.left c.args.right left right }
