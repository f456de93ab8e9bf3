-- The ranks up to the next column are counted, and its corners follow.
use Rattle.std.proofs.Common.{◌≡◌, ℕ, ◌+◌, ◌-◌, ◌++◌, List, length, take, drop, sym, ap, subst, ◌∙◌, arith}
use Rattle.std.specs.List.{sum}
use Rattle.std.specs.Prelude.{slice_range}
use Rattle.std.proofs.lemmas.List.{length-drop, length-take, take_at}
use Rattle.range_aggregate.specs.Rows.{CountsMore, GoesOnWithSums}
use Rattle.range_aggregate.proofs.Bands.{AreBands, bands_corner, bands_part, bands_sum}
use Rattle.range_aggregate.proofs.Gridded.{column_more}
use Rattle.range_aggregate.proofs.rank_grid.RankGrid.build.Goals as goal
use Rattle.range_aggregate.proofs.rank_grid.RankGrid.build.Goals.{After-count_more}

module _ (c : After-count_more) where
  kept : take c.loop-column.bands.len (c.count_more.new.bands ++ drop (length c.count_more.new.bands) c.loop-column.bands.items) ≡ c.count_more.new.bands
  kept = take_at c.count_more.new.bands _ _ (omega (arith, c.loop-column.bands.ok.0, c.count_more.ensures.long, ap length c.as_mut_slice.ensures.value))

  counted : AreBands (take c.place_of-to.result c.args.ranks.now) c.count_more.new.bands
  counted =
      bands_part c.args.ranks.now c.loop-column.bands.items c.count_more.new.bands c.loop-column.from c.place_of-to.result
      (omega (arith, c.place_of-to.ensures, c.loop-column.invariant.within, c.loop-column.invariant.before)) c.loop-column.invariant.bands
      (subst (λ (bands : List ℕ). CountsMore (slice_range c.args.ranks.now c.loop-column.from c.place_of-to.result) bands c.count_more.new.bands) c.as_mut_slice.ensures.value c.count_more.ensures)

  wide : length c.count_more.new.bands ≡ c.nearest_edge-width.result + 1
  wide = c.count_more.ensures.long ∙ ap length c.as_mut_slice.ensures.value ∙ c.loop-column.invariant.wide

pub count_more-requires-clause-few : goal.count_more-requires-clause-few
count_more-requires-clause-few c =
    let from = c.loop-column.from in
    let ranks = c.args.ranks.now in
    omega (
      arith,
      ap sum c.as_mut_slice.ensures.value,
      bands_sum (take from ranks) c.loop-column.bands.items c.loop-column.invariant.bands,
      length-take from ranks,
      length-take (c.place_of-to.result - from) (drop from ranks),
      length-drop from ranks,
      c.place_of-to.ensures,
      c.requires.few,
    )

pub push_sums-requires : goal.push_sums-requires
push_sums-requires c =
    let before = (goal.at.push_sums-requires c).After-count_more in
    omega (
      arith,
      ap sum (c.as_slice.ensures.value ∙ kept before),
      bands_sum (take c.place_of-to.result c.args.ranks.now) c.count_more.new.bands (counted before),
      length-take c.place_of-to.result c.args.ranks.now,
      c.requires.few,
    )

pub loop-column-preserved : goal.loop-column-preserved
loop-column-preserved c =
    let before = (goal.at.loop-column-preserved c).After-count_more in
    let width : ℕ = c.nearest_edge-width.result + 1 in
    let bands = c.count_more.new.bands in
    let more : GoesOnWithSums bands c.loop-column.counts.items c.push_sums.new.counts.items =
    subst (λ (l : List ℕ). GoesOnWithSums l c.loop-column.counts.items c.push_sums.new.counts.items) (c.as_slice.ensures.value ∙ kept before) c.in_ok-push_sums.ensures in
    let last = λ (row : ℕ). bands_corner c.args.ranks.now bands c.loop-column.column row c.requires.within (subst (λ (n : ℕ). AreBands (take n c.args.ranks.now) bands) c.place_of-to.ensures (counted before)) in
    record {
      within = omega (arith, c.place_of-to.ensures);
      before = omega (arith, c.place_of-to.ensures);
      wide = ap length (kept before) ∙ wide before;
      bands = subst (AreBands (take c.place_of-to.result c.args.ranks.now)) (sym (kept before)) (counted before);
      long = omega (arith, more.long, wide before, c.loop-column.invariant.long);
      each = column_more c.args.ranks.now bands c.loop-column.counts.items c.push_sums.new.counts.items width c.loop-column.column (wide before) c.loop-column.invariant.long more last c.loop-column.invariant.each;
    }
