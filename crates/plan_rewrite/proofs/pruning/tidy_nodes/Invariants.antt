use Rattle.std.proofs.Common.{◌≡◌, ◌-◌, length, take}
use Rattle.plan_rewrite.proofs.Thinning.{AreTidied}
use Rattle.plan_rewrite.proofs.pruning.tidy_nodes.Given as goal

abbrev pub invariant-loop : goal.invariant-loop
invariant-loop l = record {
  rest : l.nodes ≡ take (length l.initial.nodes - l.counter) l.initial.nodes;
  done : AreTidied l.initial.nodes (length l.initial.nodes - l.counter) l.grove;
}
