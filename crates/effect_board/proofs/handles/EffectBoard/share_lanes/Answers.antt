use Rattle.std.proofs.Common.{◌≡◌, ◌<◌, ◌+◌, ◌*◌, ◌≤◌, ◌∙◌, ap, sym, subst, arith, inl, inr, true, ℕ, pos, List, length, slice_index_or, w64}
use Rattle.std.specs.Int.{trailing_zeros}
use Rattle.std.proofs.lemmas.List.{get_or_default}
use Rattle.std.proofs.lemmas.Bool.{cases_lt, false≢true}
use Rattle.sgl_values.specs.Amounts.{plain_amount}
use Rattle.sgl_values.specs.declared.fault.Tag.{Tag}
use Rattle.tick_core.specs.declared.event.Give.{Give}
use Rattle.effect_board.specs.Handles.{view_of, rows_of, tags_of}
use Rattle.effect_board.specs.Lanes.{is_in}
use Rattle.effect_board.specs.Views.{giving, giving_all}
use Rattle.effect_board.proofs.Giving.{cell_inside}
use Rattle.effect_board.proofs.LaneGives.{fits_more, gave, lane_gave, to_lane}
use Rattle.effect_board.proofs.LaneSets as lanes
use Rattle.effect_board.proofs.handles.EffectBoard.share_lanes.Goals as goal

pub share-requires-clause-inside : goal.share-requires-clause-inside
share-requires-clause-inside c =
    let a = c.args in
    let board = a.self.now in
    let it = c.loop-left.invariant in
    let left = c.loop-left.left in
    let lane : ℕ = trailing_zeros w64 left in
    let row : ℕ = slice_index_or a.rows.now lane 0 in
    let own = lanes.taken a.lanes left c.loop-left.next (omega (arith, c.loop-left.auto.left-fits)) (omega (arith, c.loop-left-test.true)) it.rest in
    subst (λ (l : List Tag). row * length l + a.attr < rows_of board * length (tags_of board)) (sym c.as_slice-tags.ensures.value)
    (cell_inside row (rows_of board) a.attr (length (tags_of board)) (c.requires.rows lane own) c.requires.attr)

pub share-requires-clause-not_own : goal.share-requires-clause-not_own
share-requires-clause-not_own c = let none = c.loop-left.invariant.none_own in omega (arith, none)

pub loop-left-preserved : goal.loop-left-preserved
loop-left-preserved c =
    let a = c.args in
    let it = c.loop-left.invariant in
    let left = c.loop-left.left in
    let next = c.loop-left.next in
    let tags = tags_of a.self.now in
    let lane : ℕ = trailing_zeros w64 left in
    let few : left < 18446744073709551616 = omega (arith, c.loop-left.auto.left-fits) in
    let some : 0 < left = omega (arith, c.loop-left-test.true) in
    let inside : lane < 64 = lanes.inside a.lanes left next few some it.rest in
    let own : is_in a.lanes lane ≡ true = lanes.taken a.lanes left next few some it.rest in
    let from : next ≤ lane = lanes.from_next a.lanes left next few some it.rest in
    let between = lanes.between a.lanes left next few some it.rest in
    let in_numbers : lane < length a.numbers.now = omega (arith, inside, c.told-numbers) in
    record {
      of = c.share.ensures.of;
      none_own = c.share.ensures.of.own ∙ sym it.of.own ∙ it.none_own;
      next = omega (arith, inside);
      rest = lanes.less a.lanes left next few some it.rest;
      view = lane_gave tags a.attr a.lanes a.rows.now a.numbers.now lane (view_of a.seat.now) (view_of c.loop-left.seat) (view_of c.share.new.seat) own
          (it.view ∙ ap (giving_all (view_of a.seat.now)) (to_lane tags a.attr a.lanes a.rows.now a.numbers.now next lane from between))
          (c.share.ensures.view
          ∙ ap (λ (g : Give). giving (view_of c.loop-left.seat) g)
          (gave a.attr (slice_index_or a.rows.now lane 0) (slice_index_or a.numbers.now lane (pos 0)) tags a.tag (length c.as_slice-tags.result.now) c.plain-amount.result c.word_of.result (ap length c.as_slice-tags.ensures.value)
          c.requires.tag c.word_of.ensures (c.plain-amount.ensures ∙ ap plain_amount (get_or_default a.numbers.now lane c.index-numbers-lane.result (pos 0) in_numbers))));
      fit = λ k below in_set. fits_more a.numbers.now lane c.plain-amount.result c.index-numbers-lane.result in_numbers c.plain-amount.ensures c.value-number.ensures.amount k below
          (λ lower. elim (cases_lt k next) [
            | inl earlier ↦ it.fit k earlier in_set
            | inr later ↦ absurd (false≢true (sym (between k later lower) ∙ in_set))
          ]);
    }

pub loop-left-smaller : goal.loop-left-smaller
loop-left-smaller c =
    let it = c.loop-left.invariant in
    let left = c.loop-left.left in
    let few : left < 18446744073709551616 = omega (arith, c.loop-left.auto.left-fits) in
    let some : 0 < left = omega (arith, c.loop-left-test.true) in
    let inside = lanes.inside c.args.lanes left c.loop-left.next few some it.rest in
    let from = lanes.from_next c.args.lanes left c.loop-left.next few some it.rest in
    omega (arith, inside, from)

pub returns-clause-view : goal.returns-clause-view
returns-clause-view c =
    let a = c.args in
    let it = c.loop-left.invariant in
    let next = c.loop-left.next in
    let none = lanes.none_left a.lanes c.loop-left.left next (omega (arith, c.loop-left-test.false)) it.rest in
    it.view ∙ ap (giving_all (view_of a.seat.now)) (to_lane (tags_of a.self.now) a.attr a.lanes a.rows.now a.numbers.now next 64 it.next none)

pub returns-clause-fit : goal.returns-clause-fit
returns-clause-fit c = λ k below own.
    let it = c.loop-left.invariant in
    let next = c.loop-left.next in
    elim (cases_lt k next) [
      | inl earlier ↦ it.fit k earlier own
      | inr later ↦ absurd (false≢true (sym (lanes.none_left c.args.lanes c.loop-left.left next (omega (arith, c.loop-left-test.false)) it.rest k later below) ∙ own))
    ]
