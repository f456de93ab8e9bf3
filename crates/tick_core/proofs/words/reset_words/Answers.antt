use Rattle.std.proofs.Common.{arith}
use Rattle.std.proofs.lemmas.List.FromFn.{fill_by_all}
use Rattle.effect_combine.specs.Words.{start_of}
use Rattle.tick_core.specs.Core.{tag_of}
use Rattle.tick_core.proofs.words.reset_words.Goals as goal

pub returns : goal.returns
returns c =
    let inside = c.loop-place-test.false in
    fill_by_all (λ word. start_of (tag_of c.args.tags.now word)) c.loop-place.words.items _ 0 c.loop-place.invariant.0
    (λ k below. c.loop-place.invariant.1 k (omega (arith, below, c.len-place-end.ensures)))
