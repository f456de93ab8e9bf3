use Rattle.std.proofs.Common.{◌≡◌, ◌+◌, ◌*◌, ◌++◌, ◌∙◌, ℕ, List, ap, arith, length, map}
use Rattle.std.proofs.Math.Nat.{mul-add-mod_self_right}
use Rattle.std.proofs.lemmas.List.{append_assoc}
use Rattle.std.specs.List.{range_with_len}
use Rattle.effect_combine.specs.Combined.{tag_at}
use Rattle.effect_combine.specs.Words.{start_of}
use Rattle.tick_core.specs.Core.{start_words, tag_of}
use Rattle.effect_board.proofs.Lists.{starts_anew}
use Rattle.effect_board.proofs.words.start_words.Goals as goal

-- one block more
pub loop-preserved : goal.loop-preserved
loop-preserved c =
    let tags = c.args.tags.now in
    let width : ℕ = length tags in
    let start : ℕ → ℕ = λ word. start_of (tag_of tags word) in
    let rows : ℕ = c.loop.counter * 64 in
    let anew = λ (word : ℕ). ap (λ (n : ℕ). start_of (tag_at tags n)) (mul-add-mod_self_right rows width word) in
    let some = c.loop-test.true in
    let least = c.min.ensures in
    let whole : c.min.result ≡ 64 = omega (arith, some, least) in
    let all : rows * width + 64 * width ≡ (c.loop.counter + 1) * 64 * width = omega arith in
    let ahead = c.args.ahead.now in
    c.in_ok-extend_from_slice-2.ensures.items
    ∙ (λ k. c.loop.invariant k ++ (c.as_slice.ensures.value ∙ c.in_ok-block.ensures ∙ ap (λ (n : ℕ). start_words n tags) whole) k)
    ∙ append_assoc ahead (start_words rows tags) (start_words 64 tags)
    ∙ ap (λ (l : List ℕ). ahead ++ l) (starts_anew start (rows * width) anew (64 * width))
    ∙ ap (λ (n : ℕ). ahead ++ map start (range_with_len 0 n)) all
