use Rattle.std.proofs.Common.{◌≢◌, ℕ, ◌+◌, ◌<◌, length, sym, ◌∙◌, below_more, arith}
use Rattle.std.specs.Mem.Slots.{slots_items}
use Rattle.std.proofs.Math.ListN.{length-set}
use Rattle.std.proofs.lemmas.List.{get_or-set_same, get_or-set_other}
use Rattle.effect_board.proofs.Lists.{at_is}
use Rattle.effect_board.proofs.words.read_words.Goals as goal

pub loop-place-preserved : goal.loop-place-preserved
loop-place-preserved c =
    let items = c.loop-place.words.items in
    let place : ℕ = c.loop-place.place in
    let word : ℕ = c.word.result in
    let closed = slots_items c.args.closed.now.words in
    let long = c.loop-place.invariant.long in
    let test = c.loop-place-test.true in
    let end = c.len-place-end.ensures in
    let inside : place < length items = omega (arith, long, test, end) in record {
      long = length-set items place word ∙ long;
      read = below_more _ _ (λ k below. let apart : k ≢ place = omega arith in get_or-set_other items place k word 0 apart ∙ c.loop-place.invariant.read k below)
          (get_or-set_same items place word 0 inside ∙ sym (at_is closed (place + 1) word 0 c.word.ensures));
    }
