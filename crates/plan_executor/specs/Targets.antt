-- The writes of a clause at the rows that it goes to.
use Rattle.std.specs.Prelude.{ℕ, List}
use Rattle.sgl_values.specs.World.{row_at}
use Rattle.sgl_values.specs.declared.item.Item.{Item}
use Rattle.sgl_typed.specs.Items.{writes}
use Rattle.sgl_typed.specs.Value.{Context}
use Rattle.sgl_typed.specs.declared.script.TWrite.{TWrite}

-- the writes at the row with this number
abbrev pub writes_at : Context → List TWrite → ℕ → List Item
writes_at c writing row = writes (record c { target = row_at c.world row }) row writing
