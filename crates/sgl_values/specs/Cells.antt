-- Cells: what the effects of a tick on a row come to.
use Rattle.std.specs.Prelude.{ℕ, ℤ, ◌+ℤ◌, ◌==◌, ◌&&◌, List, [], ◌∷◌, Option, Some, None, if◌then◌else◌}
use Rattle.std.specs.Int.{int_min, int_max}
use Rattle.sgl_values.specs.declared.fault.Tag.{Tag}
use Rattle.sgl_values.specs.declared.fault.Tag.TheVariants.{Sum, Min, Max, Top}
use Rattle.sgl_values.specs.declared.item.Item.{Item}
use Rattle.sgl_values.specs.declared.item.Item.TheVariants.{Effect, Faulty}
use Rattle.sgl_values.specs.Amounts.{Amount, falling_cmp}
use Rattle.sgl_values.specs.Least.{least_of}
use Rattle.sgl_values.specs.Totals.{total}

-- the amounts for a row and an effect attribute
abbrev pub amounts : List Item → ℕ → ℕ → List Amount
amounts [] row attr = []
amounts (Effect to_row to_attr amount ∷ items) row attr =
    if (to_row == row) && (to_attr == attr) then amount ∷ amounts items row attr else amounts items row attr
amounts (Faulty fault ∷ items) row attr = amounts items row attr

-- a starting value and the values of amounts, joined
abbrev pub joined : (ℤ → ℤ → ℤ) → ℤ → List Amount → ℤ
joined join init amounts = total join init (λ amount. amount.value) amounts

-- the greatest amount, by priority and then by value
abbrev pub greatest : List Amount → Option Amount
greatest = least_of falling_cmp

-- the value of an amount, and a starting value where there is none
abbrev pub value_or : ℤ → Option Amount → ℤ
value_or init None = init
value_or init (Some amount) = amount.value

-- the exact sum, the least or the greatest of a starting value and the values of amounts; or the value of the greatest
-- amount, and the starting value only where there is none
abbrev pub combination : Tag → ℤ → List Amount → ℤ
combination Sum init amounts = joined (λ x y. x +ℤ y) init amounts
combination Min init amounts = joined int_min init amounts
combination Max init amounts = joined int_max init amounts
combination Top init amounts = value_or init (greatest amounts)

-- the cell of a row and an effect attribute, which has this tag and starting value
abbrev pub cell : Tag → ℤ → List Item → ℕ → ℕ → ℤ
cell tag init items row attr = combination tag init (amounts items row attr)
