-- Where no height has its span, each is below it.
use Rattle.std.proofs.Common.{◌≡◌, ◌≤◌, ◌/◌, ◌∙◌, ◌*ℤ◌, bit_or, rules, subst, w64, to_z, of_z, arith}
use Rattle.std.proofs.lemmas.Int.{to_z-of_z}
use Rattle.std.proofs.lemmas.Nat.{le_or_l, le_or_r}
use Rattle.sgl_lanes.specs.Lanes.{IsNear, IsShort}
use Rattle.sgl_lanes.proofs.product.ShortProductOperation.height.Goals as goal

pub returns : goal.returns
returns c small =
    let first = c.height-first.result / 2147483648 in
    let second = c.height-second.result / 2147483648 in
    let third = c.near_height.result / 1099511627776 in
    let sides : bit_or first second ≤ bit_or (bit_or first second) third = le_or_l (bit_or first second) third in
    let made : third ≤ bit_or (bit_or first second) third = le_or_r (bit_or first second) third in
    let one : first ≤ bit_or first second = le_or_l first second in
    let other : second ≤ bit_or first second = le_or_r first second in
    let left : IsShort c.args.left = c.height-first.ensures (omega (arith, one, sides, small)) in
    let right : IsShort c.args.right = c.height-second.ensures (omega (arith, other, sides, small)) in
    let is : to_z w64 (of_z w64 c.times.result) ≡ c.args.left *ℤ c.args.right =
    to_z-of_z w64 c.times.result (search rules) ∙ c.times.ensures.product left right in
    record { left = left; right = right; near = subst IsNear is (c.near_height.ensures (omega (arith, made, small))) }
