-- What a unit reads in `post`.
use Rattle.std.specs.Prelude.{◌≡◌, ◌≤◌, length}
use Rattle.sgl_values.specs.World.{Row}
use Rattle.sgl_typed.specs.Value.{Context}
use Rattle.sgl_typed.specs.Tick.{post_context}
use Rattle.tick_postprocess.specs.declared.unit.PostUnit.{PostUnit}
use Rattle.tick_postprocess.specs.declared.row.Ending.{Ending}
use Rattle.sgl_values.specs.declared.limit.TheConstants.{EFFECTS_MAX}

-- the row, with the values that are read
abbrev pub row_of : PostUnit → Row
row_of u = record { key = u.key; values = u.values.now }

-- the context of its expressions
abbrev pub context_of : PostUnit → Context
context_of u = post_context u.ending.now.tick.script.now u.ending.now.tick.world.now.world u.ending.now.tick.seed u.cells.now (row_of u)

-- there is a word for each row and effect attribute
pub record IsEnding (e : Ending) : Type 0 where
  pub rows : e.combined.now.rows ≡ length e.tick.world.now.world.rows
  pub width : e.combined.now.width ≡ length e.tick.script.now.schema.effects
  pub narrow : length e.tick.script.now.schema.effects ≤ EFFECTS_MAX
