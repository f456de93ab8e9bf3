use Rattle.std.proofs.Common.{◌≡◌, ℕ, ◌+◌, ◌<◌, length, get_or}
use Rattle.std.specs.Mem.Slots.{slots_items}
use Rattle.effect_board.proofs.words.read_words.Given as goal

-- the words so far are read
abbrev pub invariant-loop-place : goal.invariant-loop-place
invariant-loop-place l = record {
  long : length l.words.items ≡ length l.initial.words.items;
  read : (word : ℕ) → word < l.place → get_or l.words.items word 0 ≡ get_or (slots_items l.closed.words) (word + 1) 0;
}
