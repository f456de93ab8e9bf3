use Rattle.std.proofs.Common.{◌≤◌, take}
use Rattle.std.specs.Prelude.{All, unsigned_abs}
use Rattle.env_table.proofs.arrays.tell_range.Given as goal

abbrev pub invariant-loop-value : goal.invariant-loop-value
invariant-loop-value l = All (λ z. unsigned_abs z ≤ 1000000000000) (take l.value-index l.vals)
