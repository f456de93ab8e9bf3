use Rattle.std.proofs.Common.{rules, arith, int_le}
use Rattle.std.proofs.lemmas.Int.{ints}
use Rattle.row_groups.proofs.Scaling.{end_told, le_orders}
use Rattle.row_groups.proofs.ends.Ends.through.Goals as goal

pub returns : goal.returns
returns c = λ all order are.
    end_told int_le le_orders c.args.self.now all order are c.args.group c.min.result c.args.high c.high_of-high.result c.place.result c.through.result c.ranges.high (search rules) (search rules) c.min.ensures
    (omega (arith, ints, c.high_of-high.ensures.low)) (omega (arith, ints, c.high_of-high.ensures.high)) c.high_of-high.ensures.same c.place.ensures c.through.ensures
