-- The end times the number is within 2^30.
use Rattle.std.proofs.Common.{◌≤◌, ◌*◌, ◌/◌, ◌^◌, refl, arith}
use Rattle.std.proofs.Math.Nat.{div-le_self}
use Rattle.sgl_lanes.proofs.Factors.{end_small}
use Rattle.sgl_lanes.proofs.factor.Factor.with_end.Goals as goal

pub overflow_mul-result : goal.overflow_mul-result
overflow_mul-result c =
    let power = 2 ^ c.ilog2.result in
    let small : 536870912 / power * c.args.number ≤ 1073741824 = end_small power c.args.number c.ilog2.ensures.next_power_gt in
    record { fits = omega (arith, small) }

pub returns-clause-factor : goal.returns-clause-factor
returns-clause-factor c =
    let power = 2 ^ c.ilog2.result in
    let less : 536870912 / power ≤ 536870912 = div-le_self 536870912 power in
    record {
      from = c.requires.from;
      below = c.requires.below;
      short = omega (arith, less);
      product = refl;
      small = end_small power c.args.number c.ilog2.ensures.next_power_gt;
    }
