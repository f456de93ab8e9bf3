-- The words of cells: a start, and a merge that may go in any order.
use Rattle.std.specs.Prelude.{ℕ, pos, ◌+◌, ◌*◌, ◌+ℤ◌, ◌%◌, min, max, unsigned_abs, List}
use Rattle.std.specs.Int.{cast_unsigned}
use mir.Syntax.{w64}
use Rattle.sgl_values.specs.Amounts.{Amount}
use Rattle.sgl_values.specs.Totals.{total}
use Rattle.sgl_values.specs.declared.fault.Tag.{Tag}
use Rattle.sgl_values.specs.declared.fault.Tag.TheVariants.{Sum, Min, Max, Top}

-- the word of a cell without amounts
abbrev pub start_of : Tag → ℕ
start_of Sum = 0
start_of Min = 18446744073709551615
start_of Max = 0
start_of Top = 0

-- two words as one: the sum modulo 2^64, the lesser, the greater; the greater too for a top
abbrev pub merged : Tag → ℕ → ℕ → ℕ
merged Sum a b = (a + b) % 18446744073709551616
merged Min a b = min a b
merged Max a b = max a b
merged Top a b = max a b

-- the word of an amount: a sum's value in two's complement; the value of a least, a greatest or a top is moved up, so that no
-- amount has the start word; and a top's priority stands before it, counted in steps of 2^41
abbrev pub word_of : Tag → Amount → ℕ
word_of Sum amount = cast_unsigned w64 amount.value
word_of Min amount = unsigned_abs (amount.value +ℤ pos 1000000000000)
word_of Max amount = unsigned_abs (amount.value +ℤ pos 1000000000001)
word_of Top amount = amount.priority * 2199023255552 + unsigned_abs (amount.value +ℤ pos 1000000000001)

-- the start word merged with the word of each amount
abbrev pub word_for : Tag → List Amount → ℕ
word_for tag amounts = total (merged tag) (start_of tag) (word_of tag) amounts
