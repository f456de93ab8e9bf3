-- The product of two numbers of 32 bits.
use Rattle.std.proofs.Common.{◌≡◌, ◌≤◌, ◌*◌, ◌*ℤ◌, ◌∙◌, unsigned_abs, rules, w32, w64, to_z, of_z, arith}
use Rattle.std.proofs.lemmas.Int.{fits_signed_mul, to_z-of_z, unsigned_abs-mul}
use Rattle.std.proofs.Math.Nat.{mul-le-mul}
use Rattle.sgl_lanes.proofs.product.times.Goals as goal

pub returns-clause-small : goal.returns-clause-small
returns-clause-small c =
    let one : c.from.result ≡ c.low_half.result = c.from.ensures ∙ to_z-of_z w32 c.low_half.result (search rules) in
    let other : c.from-2.result ≡ c.low_half-2.result = c.from-2.ensures ∙ to_z-of_z w32 c.low_half-2.result (search rules) in
    let first : unsigned_abs c.from.result ≤ 2147483648 = rw one c.low_half.ensures.small in
    let second : unsigned_abs c.from-2.result ≤ 2147483648 = rw other c.low_half-2.ensures.small in
    let left : to_z w64 (of_z w64 c.from.result) ≡ c.from.result = to_z-of_z w64 c.from.result (search rules) in
    let right : to_z w64 (of_z w64 c.from-2.result) ≡ c.from-2.result = to_z-of_z w64 c.from-2.result (search rules) in
    let all : to_z w64 (of_z w64 (c.from.result *ℤ c.from-2.result)) ≡ c.from.result *ℤ c.from-2.result =
    to_z-of_z w64 (c.from.result *ℤ c.from-2.result) (fits_signed_mul w64 c.from.result c.from-2.result 2147483648 2147483648 first second (omega arith)) in
    let most : unsigned_abs c.from.result * unsigned_abs c.from-2.result ≤ 2147483648 * 2147483648 = mul-le-mul first second in
    rw (left, right, all, unsigned_abs-mul c.from.result c.from-2.result) most
