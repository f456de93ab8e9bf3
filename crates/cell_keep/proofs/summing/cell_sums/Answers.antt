use Rattle.std.proofs.Common.{◌∙◌, ap, arith}
use Rattle.std.specs.Prelude.{filter}
use Rattle.std.proofs.lemmas.List.{get_or_default}
use Rattle.cell_keep.specs.declared.point.Sums.{Sums}
use Rattle.cell_keep.specs.Circles.{sums_of}
use Rattle.cell_keep.specs.Covers.{is_counted_in}
use Rattle.cell_keep.specs.Kept.{points_of}
use Rattle.cell_links.specs.Walks.{rows_left}
use Rattle.cell_keep.specs.Rows.{no_point, points_at}
use Rattle.cell_keep.proofs.Adding.{few_counted, joined_none}
use Rattle.cell_keep.proofs.Counting.{counted_list}
use Rattle.cell_keep.proofs.Walking.{first_within, rest_within, row_counted, rows_sums, rows_within}
use Rattle.cell_keep.proofs.Holding.{held_few}
use Rattle.cell_keep.proofs.summing.cell_sums.Goals as goal

pub rows-init : goal.rows-init
rows-init c =
    let held = c.args.held.now in
    let points = held.points.items in
    let rows = rows_left c.new-walk.result in
    let test = is_counted_in c.args.circle.now c.args.cell.now in
    record {
      within = rows_within held c.requires c.new-walk.ensures.links c.list_of.result rows c.new-walk.ensures.rows;
      sums = joined_none (sums_of (filter test (points_at points rows)))
          ∙ rows_sums held c.requires c.new-walk.ensures.links c.list_of.result rows c.new-walk.ensures.rows test
          (counted_list c.args.circle.now c.args.cell.now c.list_of.result c.list_of.ensures.value);
      bounded = omega arith;
    }

pub index-point-requires : goal.index-point-requires
index-point-requires c = omega (arith, c.args.held.now.points.ok, first_within c.args.held.now.points.items (rows_left c.rows.walk) (rows_left c.step.new.self) c.in-Some.row c.in-Some.ensures c.rows.invariant.within)

pub with-sums-requires-clause-few : goal.with-sums-requires-clause-few
with-sums-requires-clause-few c =
    omega (arith, ap (λ (s : Sums). s.count) c.rows.invariant.sums, few_counted (is_counted_in c.args.circle.now c.args.cell.now) (points_of c.args.held.now), held_few c.args.held.now c.requires)

pub rows-preserved : goal.rows-preserved
rows-preserved c =
    let points = c.args.held.now.points.items in
    let test = is_counted_in c.args.circle.now c.args.cell.now in
    let row = c.in-Some.row in
    let rows = rows_left c.rows.walk in
    let rest = rows_left c.step.new.self in
    let point = c.index-point.result.now in
    let inside = first_within points rows rest row c.in-Some.ensures c.rows.invariant.within in
    record {
      within = rest_within points rows rest row c.in-Some.ensures c.rows.invariant.within;
      sums = row_counted test points rows rest row c.rows.sums c.with-sums.result (sums_of (filter test (points_of c.args.held.now))) c.is_counted_in.result point c.in-Some.ensures
          (c.index-point.ensures ∙ get_or_default points row point no_point inside) c.is_counted_in.ensures c.with-sums.ensures.value c.rows.invariant.sums;
      bounded = c.with-sums.ensures.bounded;
    }
