use Rattle.std.proofs.Common.{◌≡◌, ◌∙◌, ◌+◌, ℕ, ap, arith, sym}
use Rattle.std.specs.Prelude.{filter}
use Rattle.cell_keep.specs.declared.point.Cell.{Cell}
use Rattle.cell_keep.specs.Circles.{sums_of}
use Rattle.cell_keep.specs.Covers.{foot, is_counted_along, is_counted_before}
use Rattle.cell_keep.specs.Kept.{points_of}
use Rattle.cell_keep.proofs.Adding.{GoesOn, goes_on_at}
use Rattle.cell_keep.proofs.Counting.{square_all, square_more, square_none}
use Rattle.cell_keep.proofs.Holding.{held_few}
use Rattle.cell_keep.proofs.summing.square_sums.Goals as goal
use Rattle.cell_keep.proofs.summing.square_sums.Goals.{After-column_sums}

pub loop-east-init : goal.loop-east-init
loop-east-init c = record { value = sym (square_none c.args.circle.now (points_of c.args.held.now) c.args.square.now); bounded = omega arith }

next : (c : After-column_sums) → GoesOn (points_of c.args.held.now) (is_counted_before c.args.circle.now c.args.square.now (c.loop-east.east + 1)) c.loop-east.sums c.column_sums.result
next c = let circle = c.args.circle.now in let points = points_of c.args.held.now in let square = c.args.square.now in let east = c.loop-east.east in
    goes_on_at points (held_few c.args.held.now c.requires.placed) (is_counted_before circle square east) (is_counted_before circle square (east + 1)) (λ (cell : Cell). is_counted_along circle cell square.up.count)
    (foot circle square east) c.foot-lowest.result c.loop-east.sums c.column_sums.result c.loop-east.invariant c.foot-lowest.ensures c.column_sums.ensures.value (square_more circle points square east)

pub joined-sums-requires-clause-few : goal.joined-sums-requires-clause-few
joined-sums-requires-clause-few c = (next (goal.at.joined-sums-requires-clause-few c).After-column_sums).few

pub loop-east-preserved : goal.loop-east-preserved
loop-east-preserved c = (next (goal.at.loop-east-preserved c).After-column_sums).sums c.joined-sums.result c.joined-sums.ensures.value c.joined-sums.ensures.bounded

pub returns : goal.returns
returns c =
    let circle = c.args.circle.now in
    let points = points_of c.args.held.now in
    let square = c.args.square.now in
    let whole : c.loop-east.east ≡ square.across.count = omega arith in
    c.loop-east.invariant.value
    ∙ (ap (λ (n : ℕ). sums_of (filter (is_counted_before circle square n) points)) whole ∙ ap sums_of (square_all circle points square c.requires.square))
