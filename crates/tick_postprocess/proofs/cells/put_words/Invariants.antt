use Rattle.std.proofs.Common.{◌≡◌, ◌+◌, ◌*◌, ◌<◌, ℕ, length, slice_index_or}
use Rattle.effect_combine.specs.Combined.{word_at}
use Rattle.tick_postprocess.proofs.cells.put_words.Given as goal

abbrev pub invariant-loop-four : goal.invariant-loop-four
invariant-loop-four l = record {
  full : length l.words ≡ 64;
  words : (lane : ℕ) → lane < 4 * l.four → slice_index_or l.words lane 0 ≡ word_at l.combined (l.first + lane) l.attr;
}

abbrev pub invariant-loop-row : goal.invariant-loop-row
invariant-loop-row l = record {
  full : length l.words ≡ 64;
  words : (lane : ℕ) → l.first + lane < l.row → slice_index_or l.words lane 0 ≡ word_at l.combined (l.first + lane) l.attr;
}
