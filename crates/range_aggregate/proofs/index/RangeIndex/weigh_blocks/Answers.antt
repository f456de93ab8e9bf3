-- The sum so far and the weight in the blocks that are left come to the whole; after the last level no block is left.
use Rattle.std.proofs.Common.{◌≡◌, ℕ, ◌+◌, ◌*◌, ◌^◌, ◌≤◌, ap, subst, sym, arith}
use Rattle.std.proofs.Math.Nat.{mul-le-mul_right}
use Rattle.std.proofs.lemmas.Grind.{pow_more}
use Rattle.std.proofs.lemmas.Int.{ints, to_z-of_z}
use mir.Val.{SFits}
use mir.Syntax.{w64}
use Rattle.range_aggregate.specs.Boxes.{weight_of}
use Rattle.range_aggregate.specs.Levels.{AreLevels}
use Rattle.range_aggregate.proofs.Blocks.{pairs_within}
use Rattle.range_aggregate.proofs.Weighing.{level_at, HasBlock-at, weights_of_ends, part_none, used_up}
use Rattle.range_aggregate.proofs.index.RangeIndex.weigh_blocks.Goals as goal

pub returns-then-rest : goal.returns-then-rest
returns-then-rest c =
    let fits_low : SFits w64 c.args.y1 = c.ranges.y1 in
    let fits_high : SFits w64 c.args.y2 = c.ranges.y2 in
    let sum = simp to_z-of_z at c.loop-level.invariant.sum in
    let none = part_none c.args.self.now c.args.y1 c.args.y2 (2 ^ c.loop-level.level-index) c.loop-level.rest.from c.loop-level.rest.to c.if-rest.true in
    omega (arith, ints, sum, ap weight_of none)

pub returns-after-loop-level : goal.returns-after-loop-level
returns-after-loop-level c =
    let now = c.loop-level.invariant in
    let fits_low : SFits w64 c.args.y1 = c.ranges.y1 in
    let fits_high : SFits w64 c.args.y2 = c.ranges.y2 in
    let sum = simp to_z-of_z at now.sum in
    let end = used_up c.args.self.now _ c.loop-level.level-index c.loop-level.rest.from c.loop-level.rest.to now.levels c.loop-level-test.false now.within in
    let none = part_none c.args.self.now c.args.y1 c.args.y2 (2 ^ c.loop-level.level-index) c.loop-level.rest.from c.loop-level.rest.to end in
    omega (arith, ints, sum, ap weight_of none)

pub weigh-before-requires-clause-block : goal.weigh-before-requires-clause-block
weigh-before-requires-clause-block c odd =
    let now = c.loop-level.invariant in
    let size : ℕ = 2 ^ c.loop-level.level-index in
    let lies = level_at c.args.self.now _ c.loop-level.level-index c.level-item.result now.levels c.loop-level-test.true c.level-item.is in
    let next : c.loop-level.rest.from + 1 ≤ c.loop-level.rest.to = omega (arith, c.if-rest.false) in
    let ends : (c.loop-level.rest.from + 1) * size ≤ c.loop-level.rest.to * size = mul-le-mul_right size next in
    HasBlock-at size c.args.self.now c.level-item.result lies c.loop-level.rest.from (omega (arith, ends, now.within))

pub weigh-behind-requires-clause-block : goal.weigh-behind-requires-clause-block
weigh-behind-requires-clause-block c odd =
    let now = c.loop-level.invariant in
    let size : ℕ = 2 ^ c.loop-level.level-index in
    let end = c.whole_blocks-pairs.result.to in
    let lies = level_at c.args.self.now _ c.loop-level.level-index c.level-item.result now.levels c.loop-level-test.true c.level-item.is in
    let next : 2 * end + 1 ≤ c.loop-level.rest.to = omega (arith, odd) in
    let ends : (2 * end + 1) * size ≤ c.loop-level.rest.to * size = mul-le-mul_right size next in
    HasBlock-at size c.args.self.now c.level-item.result lies (2 * end) (omega (arith, ends, now.within))

pub loop-level-preserved : goal.loop-level-preserved
loop-level-preserved c =
    let now = c.loop-level.invariant in
    let fits_low : SFits w64 c.args.y1 = c.ranges.y1 in
    let fits_high : SFits w64 c.args.y2 = c.ranges.y2 in
    let sum = simp to_z-of_z at now.sum in
    let before = simp to_z-of_z at c.weigh-before.ensures.found in
    let behind = simp to_z-of_z at c.weigh-behind.ensures.found in
    let rest = c.loop-level.rest in
    let pairs = c.whole_blocks-pairs.ensures in
    let k = c.loop-level.level-index in
    let took = weights_of_ends c.args.self.now _ now.levels k c.level-item.result c.loop-level-test.true c.level-item.is c.args.y1 c.args.y2
    rest.from rest.to _ _ c.weigh-before.result c.weigh-behind.result c.if-rest.false now.within pairs.from pairs.to before behind in
    let inside = pairs_within (2 ^ k) (2 ^ (k + 1)) rest.to _ (pow_more 2 k) pairs.to in
    let small_before = c.weigh-before.ensures.small in
    let small_behind = c.weigh-behind.ensures.small in
    record {
      levels = now.levels;
      forward = omega (arith, pairs.from, pairs.to, c.if-rest.false);
      within = omega (arith, inside, now.within);
      sum = simp to_z-of_z (omega (arith, ints, sum, took, now.low, now.high, small_before.low, small_before.high, small_behind.low, small_behind.high));
      low = omega (arith, ints, now.low, now.high, small_before.low, small_before.high, small_behind.low, small_behind.high);
      high = omega (arith, ints, now.low, now.high, small_before.low, small_before.high, small_behind.low, small_behind.high);
    }

pub loop-level-init : goal.loop-level-init
loop-level-init c =
    let from : c.args.columns.from * 1 ≡ c.args.columns.from = omega arith in
    let to : c.args.columns.to * 1 ≡ c.args.columns.to = omega arith in
    record {
      levels = subst (AreLevels c.args.self.now) (sym c.deref-level-items.ensures.value) c.requires.levels;
      forward = c.requires.forward;
      within = omega (arith, c.requires.within);
      sum = rw (from, to) (omega (arith, ints));
      low = omega (arith, ints);
      high = omega (arith, ints);
    }
