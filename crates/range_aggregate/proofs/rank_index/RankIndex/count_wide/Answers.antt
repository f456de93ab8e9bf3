-- What the grid counts of ranks is told of places and brought to the ends of the rows; then it is told of ranks and brought to those of the columns.
use Rattle.std.proofs.Common.{◌≡◌, ℕ, ◌-◌, ◌<◌, ◌≤◌, List, length, sym, ap, subst, ◌∙◌, arith}
use Rattle.std.specs.Prelude.{slice_range}
use Rattle.range_aggregate.specs.Edges.{edge_place}
use Rattle.range_aggregate.specs.Rows.{AreInverse, count_rows}
use Rattle.range_aggregate.proofs.Transposed.{told_by_places, told_by_ranks}
use Rattle.range_aggregate.proofs.rank_index.RankIndex.count_wide.Goals as goal
use Rattle.range_aggregate.proofs.rank_index.RankIndex.count_wide.Goals.{After-places_of-along}

module _ (c : After-places_of-along) where
  inverse : AreInverse c.args.self.now c.self.inside.places.items
  inverse = subst (λ (ranks : List ℕ). AreInverse ranks c.self.inside.places.items) c.self.view_is c.self.invariant.inverse

  many : c.len-count.result ≡ length c.args.self.now
  many = omega (arith, c.len-count.ensures, c.self.inside.ranks.ok, ap length c.self.view_is)

  from_across : c.places_of-across.result.from ≡ edge_place (length c.args.self.now) c.nearest_edges-across.result.from
  from_across = c.places_of-across.ensures.from ∙ ap (λ n. edge_place n c.nearest_edges-across.result.from) many

  to_across : c.places_of-across.result.to ≡ edge_place (length c.args.self.now) c.nearest_edges-across.result.to
  to_across = c.places_of-across.ensures.to ∙ ap (λ n. edge_place n c.nearest_edges-across.result.to) many

  from_along : c.places_of-along.result.from ≡ edge_place (length c.args.self.now) c.nearest_edges-along.result.from
  from_along = c.places_of-along.ensures.from ∙ ap (λ n. edge_place n c.nearest_edges-along.result.from) many

  to_along : c.places_of-along.result.to ≡ edge_place (length c.args.self.now) c.nearest_edges-along.result.to
  to_along = c.places_of-along.ensures.to ∙ ap (λ n. edge_place n c.nearest_edges-along.result.to) many

  across_apart : c.places_of-across.result.from < c.places_of-across.result.to
  across_apart = omega (arith, from_across, to_across, c.requires.wide, c.requires.columns, c.nearest_edges-across.ensures.from, c.nearest_edges-across.ensures.to)

  along_apart : c.places_of-along.result.from < c.places_of-along.result.to
  along_apart = omega (arith, from_along, to_along, c.requires.high, c.requires.rows, c.nearest_edges-along.ensures.from, c.nearest_edges-along.ensures.to)

  across_inside : c.places_of-across.result.to ≤ length c.args.self.now
  across_inside = omega (arith, to_across)

  along_inside : c.places_of-along.result.to ≤ length c.args.self.now
  along_inside = omega (arith, to_along)

  cells : c.count_cells-counted.result ≡ count_rows c.places_of-along.result.from (c.places_of-along.result.to - 1) (slice_range c.args.self.now c.places_of-across.result.from c.places_of-across.result.to)
  cells =
      c.count_cells-counted.ensures
      ∙ (λ i. count_rows (sym from_along i) (sym to_along i - 1) (slice_range c.args.self.now (sym from_across i) (sym to_across i)))

pub count_to_ends-counted-requires-clause-counted : goal.count_to_ends-counted-requires-clause-counted
count_to_ends-counted-requires-clause-counted c =
    let before = (goal.at.count_to_ends-counted-requires-clause-counted c).After-places_of-along in
    told_by_ranks c.args.self.now c.self.inside.places.items (inverse before) c.places_of-across.result.from c.places_of-across.result.to c.places_of-along.result.from c.places_of-along.result.to c.count_cells-counted.result
    (across_apart before) (across_inside before) (along_apart before) (along_inside before) c.deref.result.now c.of.result.first c.of.result.last
    c.deref.ensures.value c.of.ensures.first c.of.ensures.last (cells before)

pub count_to_ends-requires-clause-counted : goal.count_to_ends-requires-clause-counted
count_to_ends-requires-clause-counted c =
    let before = (goal.at.count_to_ends-requires-clause-counted c).After-places_of-along in
    let told = c.count_to_ends-counted.ensures
    ∙ (λ i. count_rows (c.of.ensures.first i) (c.of.ensures.last i) (slice_range (c.deref.ensures.value i) c.args.rows.from c.args.rows.to)) in
    told_by_places c.args.self.now c.self.inside.places.items (inverse before) c.places_of-across.result.from c.places_of-across.result.to c.args.rows.from c.args.rows.to c.count_to_ends-counted.result
    (across_apart before) (across_inside before) (omega (arith, c.requires.high)) c.requires.rows c.deref-2.result.now c.of-2.result.first c.of-2.result.last
    (c.deref-2.ensures.value ∙ c.self.view_is) c.of-2.ensures.first c.of-2.ensures.last told
