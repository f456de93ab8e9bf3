use Rattle.std.proofs.Common.{◌≡◌, [], drop}
use Rattle.plan_rewrite.specs.Bare.{bare}
use Rattle.plan_rewrite.specs.Rewrite.{unified}
use Rattle.battle_algebra.specs.Same.{same_call}
use Rattle.plan_rewrite.specs.Trails.{here_of}
use Rattle.battle_algebra.specs.Tree.{Tree, numbered}
use Rattle.plan_rewrite.proofs.Merged.{Going}
use Rattle.battle_algebra.specs.ChosenWays.{ways_of}
use Rattle.plan_rewrite.proofs.merging.merge_nodes.Given as goal

abbrev pub invariant-loop-node : goal.invariant-loop-node
invariant-loop-node l = (t : Tree) → l.nodes ≡ numbered t 0 → Going l.script (drop l.node-index l.nodes) l.node-index l.out (here_of l.trail) (bare (unified same_call (ways_of l.script) t [] []))
