use Rattle.std.proofs.Common.{◌≡◌, ◌*◌, ◌++◌}
use Rattle.tick_core.specs.Core.{start_words}
use Rattle.effect_board.proofs.words.start_words.Given as goal

-- so many blocks are put down
abbrev pub invariant-loop : goal.invariant-loop
invariant-loop l = l.words.items ≡ l.ahead ++ start_words (l.counter * 64) l.tags

-- and then single rows
abbrev pub invariant-loop-row : goal.invariant-loop-row
invariant-loop-row l = l.words.items ≡ l.ahead ++ start_words l.row l.tags
