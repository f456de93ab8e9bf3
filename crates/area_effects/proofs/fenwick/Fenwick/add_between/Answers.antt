-- The amount is added at the one place, and its negative at the other.
use Rattle.std.proofs.Common.{ltb, arith}
use Rattle.std.proofs.lemmas.Int.{ints, to_z-of_z}
use mir.Val.{SFits}
use mir.Syntax.{w64}
use Rattle.area_effects.specs.Fenwick.{plus_at, plus_between}
use Rattle.area_effects.proofs.Adding.{StandsFor-same, steps-between, cond-within}
use Rattle.area_effects.proofs.fenwick.Fenwick.add_between.Goals as goal

pub add-requires-2-clause-small : goal.add-requires-2-clause-small
add-requires-2-clause-small c =
    let small = c.requires.small in let low = c.args.low in let amount = c.args.amount in
    let fits : SFits w64 amount = c.ranges.amount in
    record {
      before = plus_at low amount small.before;
      stands = simp to_z-of_z at (c.add.ensures.sums small.before small.stands);
      within = λ end. let step = cond-within 1000000000000 amount (ltb low end) c.requires.amount in
          record { low = omega (arith, ints, small.within end, step); high = omega (arith, ints, small.within end, step) };
    }

pub returns-clause-sums : goal.returns-clause-sums
returns-clause-sums c before stands =
    let low = c.args.low in let high = c.args.high in let amount = c.args.amount in
    let fits : SFits w64 amount = c.ranges.amount in
    let first = simp to_z-of_z at (c.add.ensures.sums before stands) in
    StandsFor-same _ (plus_between low high amount before) c.add-2.new.self.nodes.items (c.add-2.ensures.sums (plus_at low amount before) first)
    (λ end. steps-between low high amount _ before end c.requires.order (omega (arith, ints, c.requires.amount)))
