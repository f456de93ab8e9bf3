-- The numbers so far are put.
use Rattle.std.proofs.Common.{◌≡◌, ◌≢◌, ◌+◌, ◌*◌, ◌<◌, ℕ, ℤ, pos, length, slice_index_or}
use Rattle.env_table.proofs.arrays.put_some.Given as goal

abbrev pub invariant-loop-place : goal.invariant-loop-place
invariant-loop-place l = record {
  at : l.at ≡ l.from + l.place * l.width;
  long : length l.values ≡ length l.fn.values;
  put : (k : ℕ) (d : ℤ) → k < l.place → slice_index_or l.values (l.from + k * l.width) d ≡ slice_index_or l.column (l.lane + k) (pos 0);
  other : (i : ℕ) (d : ℤ) → ((k : ℕ) → k < l.place → i ≢ l.from + k * l.width) → slice_index_or l.values i d ≡ slice_index_or l.fn.values i d;
}
