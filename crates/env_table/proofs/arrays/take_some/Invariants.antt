-- The numbers so far are put.
use Rattle.std.proofs.Common.{◌≡◌, ◌+◌, ◌*◌, ◌<◌, ℕ, ℤ, length, slice_index_or}
use Rattle.env_table.proofs.arrays.take_some.Given as goal

abbrev pub invariant-loop-step : goal.invariant-loop-step
invariant-loop-step l = record {
  at : l.at ≡ l.from + l.step * l.width;
  long : length l.out ≡ length l.fn.out;
  put : (k : ℕ) (d : ℤ) → k < l.step → slice_index_or l.out (l.place + k) d ≡ slice_index_or l.values (l.from + k * l.width) d;
  before : (i : ℕ) (d : ℤ) → i < l.place → slice_index_or l.out i d ≡ slice_index_or l.fn.out i d;
}
