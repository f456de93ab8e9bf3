-- As many ranks of the columns are among the rows as places of the rows are among the columns.
use Rattle.std.proofs.Common.{ℕ, List, subst, ◌∙◌}
use Rattle.std.specs.Prelude.{slice_range}
use Rattle.range_aggregate.specs.Rows.{AreInverse, count_rows}
use Rattle.range_aggregate.proofs.Transposed.{rows_transposed}
use Rattle.range_aggregate.proofs.rank_index.RankIndex.count.Goals as goal

pub returns-then-rows-le-LOOKED_THROUGH : goal.returns-then-rows-le-LOOKED_THROUGH
returns-then-rows-le-LOOKED_THROUGH c =
    let places = c.self.inside.places.items in
    let inverse : AreInverse c.args.self.now places = subst (λ (ranks : List ℕ). AreInverse ranks places) c.self.view_is c.self.invariant.inverse in
    let of = c.of-then-rows-le-LOOKED_THROUGH.ensures in
    c.scan-then-rows-le-LOOKED_THROUGH.ensures
    ∙ (λ i. count_rows (of.first i) (of.last i) (slice_range (c.deref-then-rows-le-LOOKED_THROUGH.ensures.value i) c.args.rows.from c.args.rows.to))
    ∙ rows_transposed c.args.self.now places inverse c.args.columns.from c.args.columns.to c.args.rows.from c.args.rows.to c.if-columns.false c.requires.columns c.requires.some c.requires.rows
