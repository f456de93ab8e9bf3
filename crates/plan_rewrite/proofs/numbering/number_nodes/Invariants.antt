use Rattle.std.proofs.Common.{◌≡◌, ◌-◌, List, drop, take, length}
use Rattle.plan_rewrite.specs.Bare.{bare_all, numbered_all, sizes}
use Rattle.battle_algebra.specs.Tree.{Tree}
use Rattle.plan_rewrite.proofs.numbering.number_nodes.Given as goal

abbrev pub invariant-loop-behind : goal.invariant-loop-behind
invariant-loop-behind l = record {
  long : length l.nodes ≡ length l.initial.nodes;
  before : take (length l.initial.nodes - l.behind) l.nodes ≡ take (length l.initial.nodes - l.behind) l.initial.nodes;
  done : (ts : List Tree) → drop (length l.initial.nodes - l.behind) l.initial.nodes ≡ bare_all ts
      → (drop (length l.initial.nodes - l.behind) l.nodes ≡ numbered_all ts (length l.initial.nodes - l.behind)) × (l.sizes ≡ sizes ts);
}
