-- The tree answers as the points do, since it holds those that have their x in the window.
use Rattle.std.proofs.Common.{◌≡◌, ◌∙◌, ◌-◌, ◌≤◌, ap, length, refl, subst, sym, inl, inr, arith}
use Rattle.std.proofs.lemmas.List.{length-map}
use Rattle.std.specs.Prelude.{◌⊎◌}
use Rattle.sgl_values.specs.Range.{is_between}
use Rattle.extreme_sweep.specs.Laying.{entrant_at}
use Rattle.extreme_sweep.specs.Places.{least_between}
use Rattle.extreme_sweep.specs.Ranking.{entries_at}
use Rattle.extreme_sweep.specs.Ranks.{no_rank, pair_of_rank, rank_entries, IsRankTree}
use Rattle.extreme_sweep.specs.Sweeping.{groups_of, laid_points}
use Rattle.extreme_sweep.specs.Slots.{Slot}
use Rattle.extreme_sweep.proofs.Answering.{answer-none, answer-held}
use Rattle.extreme_sweep.proofs.RankOrder.{least-real, no-pair}
use Rattle.extreme_sweep.proofs.Ranges.{IsRange-same, range-unmap}
use Rattle.extreme_sweep.proofs.sweeper.Sweeper.answer.Goals as goal
use Rattle.extreme_sweep.proofs.sweeper.Sweeper.answer.Goals.{then-span-via-then-span, then-span-via-else-span+then-span-2}

pub move_to-requires-clause-last : goal.move_to-requires-clause-last
move_to-requires-clause-last c =
    let layout = c.args.layout.now in let laid = c.requires.sweeper.laid in
    omega (
      arith,
      c.requires.span.1.across.bound,
      ap length laid.xs,
      length-map laid.slots (λ (s : Slot). s.coordinate),
      ap length laid.entrants,
      length-map laid.slots (entrant_at layout.ranks.items (groups_of layout)),
    )

pub least-requires-clause-tree : goal.least-requires-clause-tree
least-requires-clause-tree c =
    let layout = c.args.layout.now in
    (groups_of layout, subst (λ groups. IsRankTree (groups_of layout) groups c.move_to.new.self.tree) (sym c.as_slice-groups.ensures.value) c.move_to.ensures.keeps.tree_is)

pub returns-then-span-clause-value : goal.returns-then-span-clause-value
returns-then-span-clause-value c = λ window is.
    let layout = c.args.layout.now in let laid = c.requires.sweeper.laid in let span = c.args.span.now in
    let none : (span.to ≤ span.from) ⊎ (span.high ≤ span.low) = elim c.then-span.branch [
      | then-span-via-then-span w ↦ inl (omega arith)
      | then-span-via-else-span+then-span-2 w ↦ inr (omega arith)
    ] in
    let across = range-unmap (λ (slot : Slot). slot.coordinate) (is_between window.x1 window.x2) laid.slots layout.xs span.from span.to laid.xs is.across in
    no-pair layout.ranked.items no_rank (omega (arith, laid.all, laid.few))
    ∙ sym (answer-none window (laid_points layout) laid.slots laid.rank laid.are_slots span.from span.to span.low span.high across is.along none)

pub returns-clause-value : goal.returns-clause-value
returns-clause-value c = λ window is.
    let layout = c.args.layout.now in let span = c.args.span.now in let n = c.move_to.new.self in let moved = c.move_to.ensures in let laid = moved.keeps.laid in
    let across = range-unmap (λ (slot : Slot). slot.coordinate) (is_between window.x1 window.x2) laid.slots layout.xs n.from n.to laid.xs
    (IsRange-same (is_between window.x1 window.x2) layout.xs span.from n.from span.to n.to (sym moved.from_is) (sym moved.to_is) is.across) in
    let ranked = layout.ranked.items in let ranks = n.tree.places.items in
    let groups = groups_of layout in
    let found : pair_of_rank c.least.result ≡ least_between (rank_entries groups ranks) span.low (span.high - 1) window.other_than =
    c.least.ensures groups (subst (λ by_place. IsRankTree groups by_place n.tree) (sym c.as_slice-groups.ensures.value) moved.keeps.tree_is)
    ∙ ap (least_between (rank_entries groups ranks) span.low (span.high - 1)) is.other in
    least-real ranked laid.pairs_rise groups refl window.other_than ranks c.least.result span.low (span.high - 1) (omega (arith, laid.all, laid.few)) found
    ∙ answer-held window (laid_points layout) laid.slots laid.rank laid.are_slots n.from n.to span.low span.high across is.along (entries_at ranked ranks) moved.keeps.holds c.if-span-2.false
