-- The rows up to the end of the block are put, and none of their cells is outside the range.
use Rattle.std.proofs.Common.{◌-◌, ◌≤◌, List, None}
use Rattle.sgl_values.specs.declared.item.Item.{Item}
use Rattle.sgl_typed.specs.Tick.{combined_from}
use Rattle.tick_postprocess.specs.Answer.{AreWords}
use Rattle.tick_postprocess.specs.Runs.{RunsOn, TellsWide}
use Rattle.tick_postprocess.proofs.next_world.put_run.Given as goal

abbrev pub invariant-loop-block : goal.invariant-loop-block
invariant-loop-block l = record {
  order : l.first ≤ l.block.end;
  within : l.block.end ≤ l.end;
  clear : (items : List Item) → AreWords l.ending.tick.script.now.schema.effects l.ending.combined.now items
      → TellsWide (combined_from l.ending.tick.script.now items 0 l.ending.tick.world.now.world.rows) l.first l.block.end None;
  runs : RunsOn l.ending l.first l.block.end l.fn.out record { stay = l.stay; children = l.children } l.out;
}

abbrev pub decreases-loop-block : goal.decreases-loop-block
decreases-loop-block l = l.end - l.block.end
