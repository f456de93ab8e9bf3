-- What a write gives.
use Rattle.std.specs.Prelude.{ℕ, Result, Ok, Err}
use Rattle.sgl_values.specs.Amounts.{Amount}
use Rattle.sgl_values.specs.declared.fault.Fault.{Fault}
use Rattle.sgl_values.specs.declared.item.Item.{Item}
use Rattle.sgl_values.specs.declared.item.Item.TheVariants.{Effect}
use Rattle.sgl_typed.specs.Items.{faulty}
use Rattle.sgl_typed.specs.Value.{Context}

-- an amount for an effect attribute of the row with this number, or the fault in its place
abbrev pub item_of : Context → ℕ → ℕ → Result Amount Fault → Item
item_of c row effect (Ok amount) = Effect row effect amount
item_of c row effect (Err fault) = faulty c.unit.key fault c.target.key
