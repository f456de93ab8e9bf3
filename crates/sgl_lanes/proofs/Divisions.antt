-- A product with the inverse of a divisor in place of a quotient.
use Rattle.std.proofs.Common.{◌≡◌, ◌<◌, ◌≤◌, ◌+◌, ◌-◌, ◌*◌, ◌/◌, ◌^◌, ℕ, arith}
use Rattle.std.proofs.Math.Nat.{div-eq_of_lt-le, div-mul-le_self, lt-div-mul-add, le_of_lt, lt_of_mul-lt-mul_right, mul-le-mul, mul-le-mul_left, mul-le-mul_right}
use Rattle.std.proofs.lemmas.Nat.{pow-add, pow_pos}
use Rattle.sgl_lanes.specs.Divisors.{IsInverse}

lower : (n d m power q : ℕ) → power ≤ m * d → q * d ≤ n → q * power ≤ n * m
lower n d m power q over part =
    let whole : q * power ≤ q * (m * d) = mul-le-mul_left q over in
    let more : q * d * m ≤ n * m = mul-le-mul_right m part in
    omega (arith, whole, more)

-- n times what the inverse is too great by is less than the power
upper : (n d m power q : ℕ) → m * d < power + d → n * d < power → n < q * d + d → n * m < (q + 1) * power
upper n d m power q up small part =
    let whole : n * (m * d) ≤ n * (power + d) = mul-le-mul_left n (le_of_lt up) in
    let more : (n + 1) * power ≤ (q * d + d) * power = mul-le-mul_right power (omega (arith, part)) in
    let times : n * m * d < (q + 1) * power * d = omega (arith, whole, more, small) in
    lt_of_mul-lt-mul_right d times

-- the product of a number with the inverse holds the quotient above the power, where the number of times that the divisor
-- makes is below the power
pub inverse_is : (n d m power : ℕ) → 0 < d → n * d < power → IsInverse m power d → n * m / power ≡ n / d
inverse_is n d m power some small inverse =
    div-eq_of_lt-le power (lower n d m power (n / d) inverse.over (div-mul-le_self n d)) (upper n d m power (n / d) inverse.up small (lt-div-mul-add some))

-- no number of the language makes 2^64 of a divisor
pub long_small : (n d : ℕ) → n ≤ 1000000000000 → d < 1048576 → n * d < 18446744073709551616
long_small n d small little =
    let most : n * d ≤ 1000000000000 * 1048576 = mul-le-mul small (le_of_lt little) in
    omega (arith, most)

-- no short number makes the power of its divisor
pub short_small : (n d power : ℕ) → n ≤ 1073741824 → 1073741824 * d < power → n * d < power
short_small n d power small reach =
    let most : n * d ≤ 1073741824 * d = mul-le-mul_right d small in
    omega (arith, most, reach)

-- rounded up, as code does it
pub inverse_of : (power d : ℕ) → 0 < power → 0 < d → IsInverse ((power - 1) / d + 1) power d
inverse_of power d some more =
    let low : (power - 1) / d * d ≤ power - 1 = div-mul-le_self (power - 1) d in
    let high : power - 1 < (power - 1) / d * d + d = lt-div-mul-add more in
    record { over = omega (arith, some, high); up = omega (arith, some, low) }

pub power_is : (k : ℕ) → 2 ^ (31 + k) ≡ 2147483648 * 2 ^ k
power_is k = pow-add 2 31 k

-- the inverse of a number from 2^k on has 32 bits
pub inverse_fits : (k d : ℕ) → 0 < d → 2 ^ k ≤ d → (2 ^ (31 + k) - 1) / d + 1 < 4294967296
inverse_fits k d some from =
    let low : (2 ^ (31 + k) - 1) / d * d ≤ 2 ^ (31 + k) - 1 = div-mul-le_self (2 ^ (31 + k) - 1) d in
    let some_power : 0 < 2 ^ k = pow_pos k in
    let less : (2 ^ (31 + k) - 1) / d * d < 2147483648 * d = omega (arith, low, power_is k, from, some_power) in
    let small : (2 ^ (31 + k) - 1) / d < 2147483648 = lt_of_mul-lt-mul_right d less in
    omega (arith, small)

-- no product of two numbers of 32 bits is further than 2^33 powers from 2^31 on
pub share_small : (n m power : ℕ) → n < 4294967296 → m < 4294967296 → 2147483648 ≤ power → n * m / power ≤ 8589934592
share_small n m power little small from =
    let first : n ≤ 4294967295 = omega (arith, little) in
    let second : m ≤ 4294967295 = omega (arith, small) in
    let most : n * m ≤ 4294967295 * 4294967295 = mul-le-mul first second in
    let part : n * m / power * power ≤ n * m = div-mul-le_self (n * m) power in
    let low : n * m / power * 2147483648 ≤ n * m / power * power = mul-le-mul_left (n * m / power) from in
    omega (arith, most, part, low)
