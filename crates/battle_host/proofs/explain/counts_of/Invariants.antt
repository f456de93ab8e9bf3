use Rattle.std.proofs.Common.{◌≡◌, map}
use Rattle.std.specs.List.{range_with_len}
use Rattle.task_scratch.specs.Scratch.{reach_at}
use Rattle.battle_host.proofs.explain.counts_of.Given as goal

abbrev pub invariant-loop-node : goal.invariant-loop-node
invariant-loop-node l = l.counts.items ≡ map (reach_at l.battle.reached) (range_with_len 0 l.node)
