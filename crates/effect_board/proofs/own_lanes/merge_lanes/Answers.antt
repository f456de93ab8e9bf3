use Rattle.std.proofs.Common.{◌≡◌, ◌<◌, ◌+◌, ◌*◌, ◌≤◌, ◌∙◌, ◌++◌, ◌∷◌, [], ap, sym, subst, arith, inl, inr, true, ℕ, pos, List, get_or, length, set, slice_index_or, w64, refl}
use Rattle.std.specs.Int.{trailing_zeros}
use Rattle.std.proofs.Math.ListN.{length-set}
use Rattle.std.proofs.lemmas.List.{get_or_default}
use Rattle.std.proofs.lemmas.Bool.{cases_lt, false≢true}
use Rattle.std.proofs.lemmas.Nat.{mod-mul-add}
use Rattle.sgl_values.specs.Amounts.{plain_amount}
use Rattle.sgl_values.specs.declared.fault.Tag.{Tag}
use Rattle.effect_combine.specs.Combined.{tag_at}
use Rattle.effect_combine.specs.Words.{merged}
use Rattle.tick_core.specs.Core.{tag_of}
use Rattle.tick_core.specs.declared.event.Give.{Give}
use Rattle.effect_board.specs.Lanes.{is_in}
use Rattle.effect_board.specs.Views.{gives_in}
use Rattle.effect_board.proofs.LaneGives.{fits_more, gave, lane_told, to_lane}
use Rattle.effect_board.proofs.LaneSets as lanes
use Rattle.effect_board.proofs.Own.{AreOwn, own_more}
use Rattle.effect_board.proofs.own_lanes.merge_lanes.Goals as goal

pub bounds-own-word : goal.bounds-own-word
bounds-own-word c =
    let a = c.args in
    let it = c.loop-left.invariant in
    let left = c.loop-left.left in
    let own = lanes.taken a.lanes left c.loop-left.next (omega (arith, c.loop-left.auto.left-fits)) (omega (arith, c.loop-left-test.true)) it.rest in
    let there = c.requires.inside (trailing_zeros w64 left) own in
    let long = it.length in
    omega (arith, there, long)

pub bounds-own-word-in-loop-left : goal.bounds-own-word-in-loop-left
bounds-own-word-in-loop-left c =
    let a = c.args in
    let it = c.loop-left.invariant in
    let left = c.loop-left.left in
    let own = lanes.taken a.lanes left c.loop-left.next (omega (arith, c.loop-left.auto.left-fits)) (omega (arith, c.loop-left-test.true)) it.rest in
    let there = c.requires.inside (trailing_zeros w64 left) own in
    let long = it.length in
    omega (arith, there, long)

pub loop-left-preserved : goal.loop-left-preserved
loop-left-preserved c =
    let a = c.args in
    let it = c.loop-left.invariant in
    let left = c.loop-left.left in
    let next = c.loop-left.next in
    let tags = a.tags.now in
    let items : List ℕ = c.loop-left.own in
    let lane : ℕ = trailing_zeros w64 left in
    let row : ℕ = slice_index_or a.rows.now lane 0 in
    let word : ℕ = row * length tags + a.attr in
    let few : left < 18446744073709551616 = omega (arith, c.loop-left.auto.left-fits) in
    let some : 0 < left = omega (arith, c.loop-left-test.true) in
    let inside : lane < 64 = lanes.inside a.lanes left next few some it.rest in
    let own : is_in a.lanes lane ≡ true = lanes.taken a.lanes left next few some it.rest in
    let from : next ≤ lane = lanes.from_next a.lanes left next few some it.rest in
    let between = lanes.between a.lanes left next few some it.rest in
    let in_numbers : lane < length a.numbers.now = omega (arith, inside, c.told-numbers) in
    let in_words : word < length items = let there = c.requires.inside lane own in let long = it.length in omega (arith, there, long) in
    let tag : a.tag ≡ tag_of tags word = c.requires.tag ∙ sym (ap (tag_at tags) (mod-mul-add row (length tags) a.attr c.requires.attr)) in
    let found : merged (tag_of tags word) (get_or items word 0) c.word_of-given.result ≡ c.merge.result
    = ap (λ (t : Tag). merged t (get_or items word 0) c.word_of-given.result) (sym tag) ∙ sym c.merge.ensures in
    record {
      length = length-set items word c.merge.result ∙ it.length;
      next = omega (arith, inside);
      rest = lanes.less a.lanes left next few some it.rest;
      merged = subst (λ (p : ℕ × List ℕ). AreOwn tags (set items word p.0) p.1) (λ k. (found k, sym c.told_with.ensures k))
          (own_more tags items c.loop-left.told.numbers word c.word_of-given.result it.merged in_words);
      told = lane_told tags a.attr a.lanes a.rows.now a.numbers.now lane (gives_in a.told.now.numbers) (gives_in c.loop-left.told.numbers) (gives_in c.told_with.result.numbers) own
          (it.told ∙ ap (λ (l : List Give). gives_in a.told.now.numbers ++ l) (to_lane tags a.attr a.lanes a.rows.now a.numbers.now next lane from between))
          (ap gives_in c.told_with.ensures
          ∙ ap (λ (g : Give). gives_in c.loop-left.told.numbers ++ g ∷ [])
          (gave a.attr row (slice_index_or a.numbers.now lane (pos 0)) tags a.tag (length tags) c.plain-amount.result c.word_of-given.result refl
          c.requires.tag c.word_of-given.ensures (c.plain-amount.ensures ∙ ap plain_amount (get_or_default a.numbers.now lane c.index-numbers-lane.result (pos 0) in_numbers))));
      fit = λ k below in_set. fits_more a.numbers.now lane c.plain-amount.result c.index-numbers-lane.result in_numbers c.plain-amount.ensures c.value-number.ensures.amount k below
          (λ lower. elim (cases_lt k next) [
            | inl earlier ↦ it.fit k earlier in_set
            | inr later ↦ absurd (false≢true (sym (between k later lower) ∙ in_set))
          ]);
    }

pub loop-left-smaller : goal.loop-left-smaller
loop-left-smaller c =
    let it = c.loop-left.invariant in
    let left = c.loop-left.left in
    let few : left < 18446744073709551616 = omega (arith, c.loop-left.auto.left-fits) in
    let some : 0 < left = omega (arith, c.loop-left-test.true) in
    let inside = lanes.inside c.args.lanes left c.loop-left.next few some it.rest in
    let from = lanes.from_next c.args.lanes left c.loop-left.next few some it.rest in
    omega (arith, inside, from)

pub returns-clause-told : goal.returns-clause-told
returns-clause-told c =
    let a = c.args in
    let it = c.loop-left.invariant in
    let next = c.loop-left.next in
    let none = lanes.none_left a.lanes c.loop-left.left next (omega (arith, c.loop-left-test.false)) it.rest in
    it.told ∙ ap (λ (l : List Give). gives_in a.told.now.numbers ++ l) (to_lane a.tags.now a.attr a.lanes a.rows.now a.numbers.now next 64 it.next none)

pub returns-clause-fit : goal.returns-clause-fit
returns-clause-fit c = λ k below own.
    let it = c.loop-left.invariant in
    let next = c.loop-left.next in
    elim (cases_lt k next) [
      | inl earlier ↦ it.fit k earlier own
      | inr later ↦ absurd (false≢true (sym (lanes.none_left c.args.lanes c.loop-left.left next (omega (arith, c.loop-left-test.false)) it.rest k later below) ∙ own))
    ]
