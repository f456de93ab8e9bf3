use Rattle.std.proofs.Common.{◌≡◌, List, drop}
use Rattle.sgl_values.specs.declared.item.Item.{Item}
use Rattle.sgl_typed.specs.Tick.{cells_from, wide_cell}
use Rattle.tick_postprocess.specs.Answer.{AreWords}
use Rattle.tick_postprocess.proofs.cells.wide_attr.Given as goal

abbrev pub invariant-loop-attr : goal.invariant-loop-attr
invariant-loop-attr l = (items : List Item) → AreWords l.effects l.combined items
    → wide_cell 0 (cells_from items l.row 0 l.effects) ≡ wide_cell l.attr (drop l.attr (cells_from items l.row 0 l.effects))
