use Rattle.std.proofs.Common.{◌<◌, ◌≤◌, add-one, arith}
use Rattle.sgl_parser.specs.Nesting.{nesting}
use Rattle.sgl_parser.proofs.Rising.{levels_here, deep_here, shallow_here}
use Rattle.sgl_parser.proofs.depth.first_deep.Goals as goal

pub returns-then-nesting-gt-NESTING_MAX : goal.returns-then-nesting-gt-NESTING_MAX
returns-then-nesting-gt-NESTING_MAX c =
    let now = levels_here c.args.tokens.now c.loop-at.at _ c.step_of.result c.loop-at.levels c.count.new.self c.loop-at-test.true c.step_of.ensures c.loop-at.invariant.levels c.in_ok-count.ensures in
    let deep : 64 < nesting c.count.new.self = omega (arith, c.nesting.ensures, c.if-nesting-gt-NESTING_MAX.true) in
    deep_here c.args.tokens.now c.loop-at.at c.count.new.self c.loop-at-test.true now deep c.loop-at.invariant.before

pub loop-at-preserved : goal.loop-at-preserved
loop-at-preserved c =
    let now = levels_here c.args.tokens.now c.loop-at.at _ c.step_of.result c.loop-at.levels c.count.new.self c.loop-at-test.true c.step_of.ensures c.loop-at.invariant.levels c.in_ok-count.ensures in
    let low : nesting c.count.new.self ≤ 64 = omega (arith, c.nesting.ensures, c.if-nesting-gt-NESTING_MAX.false) in
    rw add-one record {
      levels = now;
      shallow = low;
      before = shallow_here c.args.tokens.now c.loop-at.at c.count.new.self now low c.loop-at.invariant.before;
    }
