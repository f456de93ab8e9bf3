use Rattle.std.proofs.Common.{arith, []}
use Rattle.plan_rewrite.specs.Bare.{bare}
use Rattle.plan_rewrite.specs.Rewrite.{unified}
use Rattle.battle_algebra.specs.Same.{same_call}
use Rattle.plan_rewrite.specs.Trails.{here_of}
use Rattle.plan_rewrite.proofs.Merged.{goes_first, goes_past, goes_last}
use Rattle.battle_algebra.specs.ChosenWays.{ways_of}
use Rattle.plan_rewrite.proofs.merging.merge_nodes.Goals as goal

pub loop-node-init : goal.loop-node-init
loop-node-init c = λ t is. goes_first c.args.script.now c.args.nodes.now c.new-out.result (here_of c.new-trail.result) t c.new-out.ensures c.new-trail.ensures is

pub loop-node-preserved : goal.loop-node-preserved
loop-node-preserved c = λ t is.
    goes_past c.args.script.now c.args.nodes.now c.node-item.result c.loop-node.node-index c.loop-node.out c.merge_node.new.out (here_of c.loop-node.trail) (here_of c.merge_node.new.trail)
    (bare (unified same_call (ways_of c.args.script.now) t [] [])) c.loop-node-test.true c.node-item.is c.in_ok-merge_node.ensures (c.loop-node.invariant t is)

pub returns : goal.returns
returns c = record {
  is = λ t is. goes_last c.args.script.now c.args.nodes.now c.loop-node.node-index c.loop-node.out (here_of c.loop-node.trail) (bare (unified same_call (ways_of c.args.script.now) t [] [])) (omega (arith, c.loop-node-test.false)) (c.loop-node.invariant t is);
}
