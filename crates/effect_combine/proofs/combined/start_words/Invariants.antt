use Rattle.std.proofs.Common.{◌≡◌, ℕ, ◌<◌, ◌%◌, length, get_or}
use Rattle.effect_combine.specs.Words.{start_of}
use Rattle.effect_combine.specs.Combined.{tag_at}
use Rattle.effect_combine.proofs.combined.start_words.Given as goal

abbrev pub invariant-loop-place : goal.invariant-loop-place
invariant-loop-place l =
    (length l.words.items ≡ l.place) × ((k : ℕ) → k < l.place → get_or l.words.items k 0 ≡ start_of (tag_at l.tags (k % length l.tags)))
