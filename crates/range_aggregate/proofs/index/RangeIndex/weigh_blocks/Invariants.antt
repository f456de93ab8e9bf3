-- The sum so far, with the weight of the strip in the blocks that are left, is the weight of all of it.
use Rattle.std.proofs.Common.{◌≡◌, ◌*◌, ◌^◌, ◌≤◌, length, pos, neg_ℤ, ◌+ℤ◌, ◌≤ℤ◌, slice_range}
use Rattle.range_aggregate.specs.Boxes.{weight_of}
use Rattle.range_aggregate.specs.Blocks.{blocks}
use Rattle.range_aggregate.specs.Levels.{AreLevels, strip}
use Rattle.range_aggregate.proofs.index.RangeIndex.weigh_blocks.Given as goal

abbrev pub invariant-loop-level : goal.invariant-loop-level
invariant-loop-level l =
    let size = 2 ^ l.level-index in
    let left = strip l.fn.y1 l.fn.y2 (blocks size l.self l.rest.from l.rest.to) in
    let all = strip l.fn.y1 l.fn.y2 (slice_range l.self l.fn.columns.from l.fn.columns.to) in
    record {
      levels : AreLevels l.self l.level-items;
      forward : l.rest.from ≤ l.rest.to;
      within : l.rest.to * size ≤ length l.self;
      sum : (l.sum +ℤ weight_of left) ≡ weight_of all;
      low : neg_ℤ (pos (36893488147419103232 * l.level-index)) ≤ℤ l.sum;
      high : l.sum ≤ℤ pos (36893488147419103232 * l.level-index);
    }
