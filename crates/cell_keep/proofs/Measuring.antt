-- A circle lies in the square around it, and the cells of its points in those of the square.
use Rattle.std.proofs.Common.{◌≡◌, ◌∙◌, ◌*◌, ◌<◌, ◌≤◌, ℕ, ℤ, pos, negsuc, suc, Bool, true, ap, arith, inl, inr}
use Rattle.std.proofs.Math.IntN.{pos-*ℤ-pos, negsuc-*ℤ-negsuc}
use Rattle.std.proofs.lemmas.Bool.{cases_lt}
use Rattle.std.proofs.lemmas.Int.{ints}
use Rattle.std.proofs.lemmas.Nat.{mul-le}
use Rattle.std.specs.Prelude.{◌≤ℤ◌, ◌<ℤ◌, ◌+ℤ◌, ◌-ℤ◌, ◌*ℤ◌, ◌&&◌, unsigned_abs}
use Rattle.sgl_values.specs.Distance.{is_in_circle, square, squared_distance}
use Rattle.cell_keep.specs.Grid.{quotient}
use Rattle.cell_keep.specs.Covers.{is_from, IsSpan}
use Rattle.cell_keep.specs.declared.span.Span.{Span}

square-is : (z : ℤ) → square z ≡ pos (unsigned_abs z * unsigned_abs z)
square-is (pos n) = pos-*ℤ-pos n n
square-is (negsuc n) = negsuc-*ℤ-negsuc n n

-- a greater number has a greater square
abs-le : (a b : ℕ) → a * a ≤ b * b → a ≤ b
abs-le a b below = elim (cases_lt b a) [
  | inl above ↦ absurd (omega (arith, below, mul-le (suc b) (suc b) a a (omega (arith, above)) (omega (arith, above))))
  | inr le ↦ le
]

-- a number whose square is at most another's lies between its negative and it
between : (d r : ℤ) → pos 0 ≤ℤ r → square d ≤ℤ square r → (d ≤ℤ r) × (pos 0 ≤ℤ (d +ℤ r))
between d r low below =
    let squares : unsigned_abs d * unsigned_abs d ≤ unsigned_abs r * unsigned_abs r = omega (arith, ints, square-is d, square-is r, below) in
    let abs = abs-le (unsigned_abs d) (unsigned_abs r) squares in
    (grind (arith, ints, abs, low), grind (arith, ints, abs, low))

-- ---- quotients

quotient-low : (z : ℤ) → (pos 64 *ℤ quotient z) ≤ℤ z
quotient-low (pos n) = omega (arith, ints)
quotient-low (negsuc n) = omega (arith, ints)

quotient-high : (z : ℤ) → z <ℤ (pos 64 *ℤ quotient z +ℤ pos 64)
quotient-high (pos n) = omega (arith, ints)
quotient-high (negsuc n) = omega (arith, ints)

pub quotient-le : (a b : ℤ) → a ≤ℤ b → quotient a ≤ℤ quotient b
quotient-le a b below = omega (arith, ints, below, quotient-low a, quotient-high b)

pub quotient-near : (z : ℤ) → (negsuc 2000000000000 ≤ℤ z) → (z ≤ℤ pos 2000000000000) → (negsuc 2000000000000 ≤ℤ quotient z) × (quotient z ≤ℤ pos 2000000000000)
quotient-near z low high = (omega (arith, ints, low, high, quotient-low z, quotient-high z), omega (arith, ints, low, high, quotient-low z, quotient-high z))

-- the quotient of a number in reach is in the span
in_span : (centre radius z : ℤ) (span : Span) → IsSpan centre radius span → (z -ℤ centre) ≤ℤ radius → pos 0 ≤ℤ ((z -ℤ centre) +ℤ radius)
    → is_from span.first span.count (quotient z) ≡ true
in_span centre radius z span is high low =
    let from = quotient-le (centre -ℤ radius) z (omega (arith, ints, low)) in
    let to = quotient-le z (centre +ℤ radius) (omega (arith, ints, high)) in
    let first = is.0 in
    let last = is.1 in
    grind (arith, ints, from, to, first, last)

circle_holds : (radius d : ℤ) → is_in_circle radius d ≡ true → (pos 0 ≤ℤ radius) × (d ≤ℤ square radius)
circle_holds radius d holds = (grind (arith, ints, holds), grind (arith, ints, holds))

-- a point of the circle is in the cells that the spans have
pub reaches : (x y radius a b : ℤ) (across up : Span) → IsSpan x radius across → IsSpan y radius up → is_in_circle radius (squared_distance x y a b) ≡ true
    → (is_from across.first across.count (quotient a) && is_from up.first up.count (quotient b)) ≡ true
reaches x y radius a b across up is_across is_up holds =
    let held = circle_holds radius (squared_distance x y a b) holds in
    let first = between (a -ℤ x) radius held.0 (omega (arith, ints, held.1, square-is (a -ℤ x), square-is (b -ℤ y))) in
    let second = between (b -ℤ y) radius held.0 (omega (arith, ints, held.1, square-is (a -ℤ x), square-is (b -ℤ y))) in
    both (in_span x radius a across is_across first.0 first.1) (in_span y radius b up is_up second.0 second.1)
  where
    both : {f g : Bool} → f ≡ true → g ≡ true → (f && g) ≡ true
    both {f} {g} p q = ap (λ (v : Bool). v && g) p ∙ q
