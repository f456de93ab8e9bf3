use Rattle.std.proofs.Common.{◌≡◌, ◌+◌, ◌<◌, ℕ, [], List, length, pos, slice_index_or}
use Rattle.sgl_values.specs.declared.item.Item.{Item}
use Rattle.sgl_typed.specs.Tick.{cells_from}
use Rattle.sgl_lanes.specs.Lanes.{lane_of}
use Rattle.tick_postprocess.specs.Answer.{AreWords}
use Rattle.tick_postprocess.specs.Blocks.{IsPut}
use Rattle.tick_postprocess.proofs.block.put_columns.Given as goal

abbrev pub invariant-loop-attr : goal.invariant-loop-attr
invariant-loop-attr l = record {
  full : length l.cells ≡ 16;
  put : (items : List Item) → AreWords l.effects l.ending.combined.now items → (lane : ℕ) → l.first + lane < l.end → (attr : ℕ) → attr < l.attr
      → IsPut (slice_index_or (cells_from items (l.first + lane) 0 l.effects) attr (pos 0)) (lane_of (slice_index_or l.cells attr []) lane) l.exact;
}
