-- The end behind first, then the end before.
use Rattle.std.proofs.Common.{arith}
use Rattle.std.specs.Prelude.{nat_le, slice_range}
use Rattle.range_aggregate.specs.Rows.{count_rows}
use Rattle.range_aggregate.proofs.Counting.{IsMoved, count_part_bound, moved_before, moved_behind, moved_is}
use Rattle.range_aggregate.proofs.ends.count_to_ends.Goals as goal
use Rattle.range_aggregate.proofs.ends.count_to_ends.Goals.{After-moved-counted, After-scan_between-behind}

-- the count from the one edge to the other, brought to the end behind
behind : (c : After-scan_between-behind) → IsMoved (nat_le c.args.edges.to c.args.ends.to) c.args.counted c.scan_between-behind.result (count_rows c.args.rows.first c.args.rows.last (slice_range c.args.ranks.now c.args.edges.from c.args.ends.to))
behind c =
    moved_behind c.args.rows.first c.args.rows.last c.args.ranks.now c.args.edges.from c.args.edges.to c.args.ends.to _ _
    (omega (arith, c.requires.near.from_within, c.requires.near.to_within, c.requires.wide)) (omega (arith, c.requires.near.from_within, c.requires.wide)) c.requires.counted
    c.scan_between-behind.ensures.from_end c.scan_between-behind.ensures.from_edge

module _ (c : After-moved-counted) (told : IsMoved (nat_le c.args.edges.to c.args.ends.to) c.args.counted c.scan_between-behind.result (count_rows c.args.rows.first c.args.rows.last (slice_range c.args.ranks.now c.args.edges.from c.args.ends.to))) where
  -- and then to the end before
  before : IsMoved (nat_le c.args.ends.from c.args.edges.from) c.moved-counted.result c.scan_between-before.result (count_rows c.args.rows.first c.args.rows.last (slice_range c.args.ranks.now c.args.ends.from c.args.ends.to))
  before =
      moved_before c.args.rows.first c.args.rows.last c.args.ranks.now c.args.edges.from c.args.ends.from c.args.ends.to _ _
      (omega (arith, c.requires.near.from_within, c.requires.wide)) (omega (arith, c.requires.wide))
      (moved_is (nat_le c.args.edges.to c.args.ends.to) _ _ _ c.moved-counted.result told c.moved-counted.ensures)
      c.scan_between-before.ensures.from_end c.scan_between-before.ensures.from_edge

pub moved-counted-requires-clause-added : goal.moved-counted-requires-clause-added
moved-counted-requires-clause-added c = λ added.
    let is = behind (goal.at.moved-counted-requires-clause-added c).After-scan_between-behind in
    omega (arith, is.added added, count_part_bound c.args.rows.first c.args.rows.last c.args.ranks.now c.args.edges.from c.args.ends.to c.requires.few)

pub moved-counted-requires-clause-taken : goal.moved-counted-requires-clause-taken
moved-counted-requires-clause-taken c = λ taken. omega (arith, (behind (goal.at.moved-counted-requires-clause-taken c).After-scan_between-behind).taken taken)

pub moved-requires-clause-added : goal.moved-requires-clause-added
moved-requires-clause-added c = λ added.
    let at = goal.at.moved-requires-clause-added c in
    let is = before at.After-moved-counted (behind at.After-scan_between-behind) in
    omega (arith, is.added added, count_part_bound c.args.rows.first c.args.rows.last c.args.ranks.now c.args.ends.from c.args.ends.to c.requires.few)

pub moved-requires-clause-taken : goal.moved-requires-clause-taken
moved-requires-clause-taken c = λ taken.
    let at = goal.at.moved-requires-clause-taken c in
    omega (arith, (before at.After-moved-counted (behind at.After-scan_between-behind)).taken taken)

pub returns : goal.returns
returns c = let at = goal.at.returns c in moved_is (nat_le c.args.ends.from c.args.edges.from) _ _ _ _ (before at.After-moved-counted (behind at.After-scan_between-behind)) c.moved.ensures
