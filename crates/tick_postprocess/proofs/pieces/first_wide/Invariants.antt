use Rattle.std.proofs.Common.{◌≡◌, ℕ, List, drop, length}
use Rattle.sgl_values.specs.declared.item.Item.{Item}
use Rattle.sgl_typed.specs.declared.script.TScript.{TScript}
use Rattle.sgl_typed.specs.Tick.{cell_fault, combined_from}
use Rattle.effect_combine.specs.Combined.{CellWords}
use Rattle.env_table.specs.Table.{Table}
use Rattle.tick_postprocess.specs.Answer.{AreWords}
use Rattle.tick_postprocess.specs.Pieces.{AreDone}
use Rattle.tick_postprocess.proofs.PieceSteps.{first_row}
use Rattle.tick_postprocess.proofs.pieces.first_wide.Given as goal

abbrev pub invariant-loop-at : goal.invariant-loop-at
invariant-loop-at l = (script : TScript) (world : Table) (combined : CellWords) (seed : ℕ) → AreDone script world combined seed l.pieces
    → (items : List Item) → AreWords script.schema.effects combined items
    → cell_fault (combined_from script items 0 world.world.rows) ≡ cell_fault (drop (first_row (length world.world.rows) (drop l.at l.pieces)) (combined_from script items 0 world.world.rows))
