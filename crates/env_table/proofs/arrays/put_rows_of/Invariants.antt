-- The columns so far are put.
use Rattle.std.proofs.Common.{◌≡◌, ◌+◌, ◌*◌, ◌<◌, ℕ, ℤ, [], pos, length, slice_index_or}
use Rattle.env_table.proofs.arrays.put_rows_of.Given as goal

abbrev pub invariant-loop-attr : goal.invariant-loop-attr
invariant-loop-attr l = record {
  long : length l.values ≡ length l.fn.values;
  before : (i : ℕ) (d : ℤ) → i < l.from → slice_index_or l.values i d ≡ slice_index_or l.fn.values i d;
  put : (k a : ℕ) (d : ℤ) → k < l.count → a < l.attr
      → slice_index_or l.values (l.from + (k * l.width + a)) d ≡ slice_index_or (slice_index_or l.columns a []) (l.lane + k) (pos 0);
}
