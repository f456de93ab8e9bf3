-- The nodes below this one have got their shares.
use Rattle.std.proofs.Common.{◌≡◌, ◌-◌, length}
use Rattle.std.specs.Prelude.{vec_capacity}
use Rattle.area_effects.proofs.Adding.{Adding}
use Rattle.area_effects.proofs.fenwick.Fenwick.add.Given as goal

abbrev pub invariant-loop-at : goal.invariant-loop-at
invariant-loop-at l = record {
  adding : Adding l.place l.amount l.initial.self.nodes.items l.self.nodes.items l.at;
  room : vec_capacity l.self.nodes ≡ vec_capacity l.initial.self.nodes;
}

abbrev pub decreases-loop-at : goal.decreases-loop-at
decreases-loop-at l = length l.self.nodes.items - l.at
