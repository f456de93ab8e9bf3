use Rattle.std.proofs.Common.{◌≡◌, ◌+◌, ◌<◌, ℕ, length, slice_index_or}
use Rattle.effect_combine.specs.Combined.{word_at}
use Rattle.tick_postprocess.proofs.cells.put_four.Given as goal

abbrev pub invariant-loop-step : goal.invariant-loop-step
invariant-loop-step l = record {
  full : length l.words ≡ 64;
  put : (k : ℕ) → k < l.step → slice_index_or l.words (l.lane + k) 0 ≡ word_at l.combined (l.row + k) l.attr;
  before : (i : ℕ) → i < l.lane → slice_index_or l.words i 0 ≡ slice_index_or l.initial.words i 0;
}
