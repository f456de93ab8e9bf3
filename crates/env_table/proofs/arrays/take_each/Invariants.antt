-- The groups so far are put.
use Rattle.std.proofs.Common.{◌≡◌, ◌+◌, ◌*◌, ◌<◌, ℕ, ℤ, length, slice_index_or}
use Rattle.env_table.proofs.arrays.take_each.Given as goal

abbrev pub invariant-loop-group : goal.invariant-loop-group
invariant-loop-group l = record {
  long : length l.out ≡ length l.fn.out;
  put : (k : ℕ) (d : ℤ) → k < l.group * 4 → slice_index_or l.out k d ≡ slice_index_or l.values (l.from + k * l.width) d;
}
