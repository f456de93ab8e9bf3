use Rattle.std.proofs.Common.{◌≡◌, ◌+◌, ◌*◌, ◌++◌, length, map}
use Rattle.std.specs.List.{range_with_len}
use Rattle.effect_combine.specs.Words.{start_of}
use Rattle.tick_core.specs.Core.{tag_of}
use Rattle.effect_board.proofs.words.push_row.Given as goal

abbrev pub invariant-loop-attr : goal.invariant-loop-attr
invariant-loop-attr l = l.words.items ≡ l.ahead ++ map (λ word. start_of (tag_of l.tags word)) (range_with_len 0 (l.row * length l.tags + l.attr))
