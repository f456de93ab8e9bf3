use Rattle.std.proofs.Common.{◌≡◌, ◌+◌, ◌≤◌, List, None, length, map}
use Rattle.sgl_values.specs.declared.item.Item.{Item}
use Rattle.sgl_typed.specs.Tick.{cell_fault, combined_from, post_fault, posted}
use Rattle.tick_postprocess.specs.Answer.{AreWords}
use Rattle.tick_postprocess.specs.Blocks.{IsBlock}
use Rattle.tick_postprocess.specs.Rows.{births}
use Rattle.tick_postprocess.proofs.RowSteps.{IsBornSoFar}
use Rattle.tick_postprocess.proofs.next_world.put_children.Given as goal

abbrev pub invariant-loop-row : goal.invariant-loop-row
invariant-loop-row l = record {
  block : IsBlock l.ending l.block;
  width : l.out.table.width ≡ l.ending.tick.world.now.width;
  tick : l.out.table.world.tick ≡ l.fn.out.table.world.tick;
  few : length l.out.table.world.rows + l.left ≤ 65536;
  room : l.left ≤ l.out.room;
  above : l.out.table.world.last_key ≤ l.last;
  keys : l.last + l.left ≡ l.ending.tick.world.now.world.last_key + l.children;
  rows : (items : List Item) → AreWords l.ending.tick.script.now.schema.effects l.ending.combined.now items
      → cell_fault (combined_from l.ending.tick.script.now items 0 l.ending.tick.world.now.world.rows) ≡ None
      → post_fault (map (posted l.ending.tick.script.now l.ending.tick.world.now.world l.ending.tick.seed) (combined_from l.ending.tick.script.now items 0 l.ending.tick.world.now.world.rows)) ≡ None
      → l.children ≡ births (map (posted l.ending.tick.script.now l.ending.tick.world.now.world l.ending.tick.seed) (combined_from l.ending.tick.script.now items 0 l.ending.tick.world.now.world.rows))
      → IsBornSoFar (map (posted l.ending.tick.script.now l.ending.tick.world.now.world l.ending.tick.seed) (combined_from l.ending.tick.script.now items 0 l.ending.tick.world.now.world.rows))
      l.row l.ending.tick.world.now.world.last_key l.last l.left l.fn.out.table.world.rows l.out.table.world.rows;
}
