-- What is summed up so far, with the sum at the places before this one, is the whole sum.
use Rattle.std.proofs.Common.{◌≡◌, ℕ, ℤ, ◌+ℤ◌, ◌≤◌}
use Rattle.area_effects.specs.Fenwick.{StandsFor}
use Rattle.area_effects.proofs.fenwick.Fenwick.sum_before.Given as goal

abbrev pub invariant-loop-at : goal.invariant-loop-at
invariant-loop-at l = record {
  inside : l.at ≤ l.end;
  whole : (before : ℕ → ℤ) → StandsFor before l.self.nodes.items → before l.end ≡ before l.at +ℤ l.sum;
}

abbrev pub decreases-loop-at : goal.decreases-loop-at
decreases-loop-at l = l.at
