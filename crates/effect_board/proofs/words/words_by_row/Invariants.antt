use Rattle.std.proofs.Common.{◌≡◌}
use Rattle.tick_core.specs.Core.{start_words}
use Rattle.effect_board.proofs.words.words_by_row.Given as goal

abbrev pub invariant-loop-row : goal.invariant-loop-row
invariant-loop-row l = l.words.items ≡ start_words l.row l.tags
