-- The groups so far are put.
use Rattle.std.proofs.Common.{◌≡◌, ◌≢◌, ◌+◌, ◌*◌, ◌<◌, ℕ, ℤ, pos, length, slice_index_or}
use Rattle.env_table.proofs.arrays.put_each.Given as goal

abbrev pub invariant-loop-group : goal.invariant-loop-group
invariant-loop-group l = record {
  long : length l.values ≡ length l.fn.values;
  put : (k : ℕ) (d : ℤ) → k < l.group * 4 → slice_index_or l.values (l.from + k * l.width) d ≡ slice_index_or l.column (l.lane + k) (pos 0);
  other : (i : ℕ) (d : ℤ) → ((k : ℕ) → k < l.group * 4 → i ≢ l.from + k * l.width) → slice_index_or l.values i d ≡ slice_index_or l.fn.values i d;
}
