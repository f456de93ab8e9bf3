use Rattle.std.proofs.Common.{◌≡◌, ℕ, ◌<◌, length, get_or}
use Rattle.effect_combine.specs.Words.{start_of}
use Rattle.tick_core.specs.Core.{tag_of}
use Rattle.tick_core.proofs.words.reset_words.Given as goal

-- the words so far are at their start
abbrev pub invariant-loop-place : goal.invariant-loop-place
invariant-loop-place l = (length l.words.items ≡ length l.initial.words.items) × ((k : ℕ) → k < l.place → get_or l.words.items k 0 ≡ start_of (tag_of l.tags k))
