use Rattle.std.proofs.Common.{◌≡◌, List, drop}
use Rattle.sgl_values.specs.declared.item.Item.{Item}
use Rattle.sgl_typed.specs.Tick.{cell_fault, combined_from}
use Rattle.tick_postprocess.specs.Answer.{AreWords}
use Rattle.tick_postprocess.proofs.cells.first_wide_between.Given as goal

abbrev pub invariant-loop-row : goal.invariant-loop-row
invariant-loop-row l = (items : List Item) → AreWords l.ending.tick.script.now.schema.effects l.ending.combined.now items
    → cell_fault (drop l.first (combined_from l.ending.tick.script.now items 0 l.ending.tick.world.now.world.rows)) ≡ cell_fault (drop l.row (combined_from l.ending.tick.script.now items 0 l.ending.tick.world.now.world.rows))
