-- What passes a test is as many and weighs the same in any order.
use Rattle.range_aggregate.specs.Boxes.{is_in}
use Rattle.range_aggregate.proofs.Weights.{length-filter-IsPermutation, weight_of-filter-IsPermutation}
use Rattle.range_aggregate.proofs.law.boxes_ignore_order.Goals as goal

pub returns-clause-counts : goal.returns-clause-counts
returns-clause-counts c x1 x2 y1 y2 points others same = length-filter-IsPermutation (is_in x1 x2 y1 y2) points others same

pub returns-clause-sums : goal.returns-clause-sums
returns-clause-sums c x1 x2 y1 y2 points others same = weight_of-filter-IsPermutation (is_in x1 x2 y1 y2) points others same
