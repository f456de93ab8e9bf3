-- The tasks of a tick, and their items.
use Rattle.std.specs.Prelude.{ℕ, min, Bool, true, List}
use Rattle.sgl_values.specs.Amounts.{is_amount}
use Rattle.sgl_values.specs.declared.fault.Tag.{Tag}
use Rattle.sgl_values.specs.declared.item.Item.{Item}
use Rattle.sgl_values.specs.declared.item.Item.TheVariants.{Effect, Faulty}

-- the rows of the board and the tags of the effect attributes, the limit of items, the number of tasks, and the items of each; the number
-- of nodes, and how many frames of a task reach one
pub record Job : Type 0 where
  pub rows : ℕ
  pub tags : List Tag
  pub limit : ℕ
  pub count : ℕ
  pub items : ℕ → List Item
  pub nodes : ℕ
  pub reach : ℕ → ℕ → ℕ

-- an amount keeps its ranges
abbrev pub item_fits : Item → Bool
item_fits (Effect row attr amount) = is_amount amount
item_fits (Faulty fault) = true

-- a count of 64 bits, which stops at the greatest
abbrev pub capped : ℕ → ℕ
capped n = min n 18446744073709551615
