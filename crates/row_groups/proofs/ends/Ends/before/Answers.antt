use Rattle.std.proofs.Common.{rules, arith, int_lt}
use Rattle.std.proofs.lemmas.Int.{ints}
use Rattle.row_groups.proofs.Scaling.{end_told, lt_orders}
use Rattle.row_groups.proofs.ends.Ends.before.Goals as goal

pub returns : goal.returns
returns c = λ all order are.
    end_told int_lt lt_orders c.args.self.now all order are c.args.group c.min.result c.args.low c.low_of-low.result c.place.result c.below.result c.ranges.low (search rules) (search rules) c.min.ensures
    (omega (arith, ints, c.low_of-low.ensures.low)) (omega (arith, ints, c.low_of-low.ensures.high)) c.low_of-low.ensures.same c.place.ensures c.below.ensures
