-- Products that are small.
use Rattle.std.proofs.Common.{◌≡◌, ◌<◌, ◌≤◌, ◌+◌, ◌*◌, ◌/◌, ℕ, suc, ℤ, pos, negsuc, ◌+ℤ◌, ◌-ℤ◌, ◌*ℤ◌, neg_ℤ, unsigned_abs, arith}
use Rattle.std.proofs.lemmas.Int.{ints, unsigned_abs-mul}
use Rattle.std.proofs.Math.IntN.{negsuc-*ℤ-pos, pos-*ℤ-pos}
use Rattle.std.proofs.Math.Nat.{div-mul-le_self, le_of_lt, mul-le-mul, mul-le-mul_left, mul-le-mul_right}
use Rattle.sgl_lanes.specs.Lanes.{IsNear, IsWithin}

-- a number below twice a power, times what the power leaves of 2^29
pub end_small : (power n : ℕ) → n < 2 * power → 536870912 / power * n ≤ 1073741824
end_small power n below =
    let low : 536870912 / power * power ≤ 536870912 = div-mul-le_self 536870912 power in
    let more : 536870912 / power * n ≤ 536870912 / power * (2 * power) = mul-le-mul_left (536870912 / power) (le_of_lt below) in
    omega (arith, low, more)

-- a height below twice the end makes a product below 2^31
pub height_small : (height end n : ℕ) → 0 < n → height < 2 * end → end * n ≤ 1073741824 → height * n < 2147483648
height_small height end n some below small =
    let more : (height + 1) * n ≤ 2 * end * n = mul-le-mul_right n (omega (arith, below)) in
    omega (arith, more, small, some)

-- the product with a height, less that with the height of 0
pub product_back : (z : ℤ) (height end n : ℕ) → pos height ≡ z +ℤ pos end → pos (height * n) -ℤ pos (end * n) ≡ z *ℤ pos n
product_back (pos a) height end n is =
    let sum : height ≡ a + end = omega (arith, ints, is) in
    let all : height * n ≡ a * n + end * n = rw sum (omega arith) in
    let back : pos (height * n) -ℤ pos (end * n) ≡ pos (a * n) = omega (arith, ints, all) in
    rw (pos-*ℤ-pos a n) back
product_back (negsuc a) height end n is =
    let sum : height + suc a ≡ end = omega (arith, ints, is) in
    let all : height * n + suc a * n ≡ end * n = rw (← sum) (omega arith) in
    let back : pos (height * n) -ℤ pos (end * n) ≡ neg_ℤ (pos (suc a * n)) = omega (arith, ints, all) in
    rw (negsuc-*ℤ-pos a n) back

near_of_size : (z : ℤ) → unsigned_abs z ≤ 274877906944 → IsNear z
near_of_size z small = record { low = omega (arith, ints, small); high = omega (arith, ints, small) }

-- products of numbers of 20 bits are near
pub product_near : (a b : ℤ) → IsWithin 524288 a → IsWithin 524288 b → IsNear (a *ℤ b)
product_near a b left right =
    let most : unsigned_abs a * unsigned_abs b ≤ 524288 * 524288 = mul-le-mul left.size right.size in
    near_of_size (a *ℤ b) (rw (unsigned_abs-mul a b) most)

pub little_short : (z : ℤ) → IsWithin 524288 z → IsWithin 1073741824 z
little_short z little = record { size = omega (arith, little.size); below = omega (arith, ints, little.below) }
