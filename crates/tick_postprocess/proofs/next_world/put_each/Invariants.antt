-- The rows of the block so far are put.
use Rattle.tick_postprocess.specs.Runs.{RunsOn}
use Rattle.tick_postprocess.proofs.next_world.put_each.Given as goal

abbrev pub invariant-loop-row : goal.invariant-loop-row
invariant-loop-row l = RunsOn l.ending l.block.first l.row l.fn.out record { stay = l.stay; children = l.children } l.out
