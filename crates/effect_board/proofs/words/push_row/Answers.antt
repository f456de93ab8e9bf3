use Rattle.std.proofs.Common.{◌+◌, ◌*◌, ◌++◌, ◌∙◌, ℕ, ap, length, map}
use Rattle.std.proofs.Math.Nat.{add_assoc}
use Rattle.std.specs.List.{range_with_len}
use Rattle.effect_combine.specs.Words.{start_of}
use Rattle.tick_core.specs.Core.{tag_of}
use Rattle.effect_board.proofs.Lists.{starts_more}
use Rattle.effect_board.proofs.words.push_row.Goals as goal

pub loop-attr-preserved : goal.loop-attr-preserved
loop-attr-preserved c =
    let start : ℕ → ℕ = λ word. start_of (tag_of c.args.tags.now word) in
    let before = c.args.row * length c.args.tags.now in
    starts_more c.loop-attr.words.items _ c.args.ahead.now start (before + c.loop-attr.attr) c.start_word.result c.in_ok-push.ensures.items c.loop-attr.invariant (c.start_word.ensures ∙ ap start_of c.tag_of.ensures)
    ∙ ap (λ (n : ℕ). c.args.ahead.now ++ map start (range_with_len 0 n)) (add_assoc before c.loop-attr.attr 1)
