-- The inverse is rounded up, and the power is above the short numbers times the divisor.
use Rattle.std.proofs.Common.{◌≡◌, ◌<◌, ◌+◌, ◌*◌, ◌%◌, ◌^◌, arith}
use Rattle.std.proofs.lemmas.Nat.{pow_pos}
use Rattle.sgl_lanes.proofs.Divisions.{inverse_fits, inverse_of, power_is}
use Rattle.sgl_lanes.proofs.LaneSets.{one_is}
use Rattle.sgl_lanes.proofs.divisor.Divisor.with_inverse.Goals as goal

pub returns-then-power-from-clause-divisor : goal.returns-then-power-from-clause-divisor
returns-then-power-from-clause-divisor c =
    let half = c.ilog2-shift.result in
    let power : 1 * 2 ^ (31 + half) % 18446744073709551616 ≡ 2 ^ (31 + half) = one_is (31 + half) (omega (arith, c.ilog2-shift.ensures.bound)) in
    let is : 2 ^ half ≡ c.args.number = omega (arith, c.if-power-from.true, c.from.ensures, power, power_is half) in
    record {
      from = c.requires.from;
      below = c.requires.below;
      shifted = omega (arith, c.ilog2-shift.ensures.bound);
      reach = omega (arith, power_is half, c.ilog2-shift.ensures.next_power_gt);
      inverse = record { over = omega (arith, power_is half, is); up = omega (arith, power_is half, is, c.requires.from) };
    }

pub overflow_cast-result-2 : goal.overflow_cast-result-2
overflow_cast-result-2 c =
    let half = c.ilog2-shift.result in
    let power : 1 * 2 ^ (31 + half) % 18446744073709551616 ≡ 2 ^ (31 + half) = one_is (31 + half) (omega (arith, c.ilog2-shift.ensures.bound)) in
    rw (power, c.from-2.ensures) (record { fits = inverse_fits half c.args.number (omega (arith, c.requires.from)) c.ilog2-shift.ensures.power_le })

pub returns-clause-divisor : goal.returns-clause-divisor
returns-clause-divisor c =
    let half = c.ilog2-shift.result in
    let power : 1 * 2 ^ (31 + half) % 18446744073709551616 ≡ 2 ^ (31 + half) = one_is (31 + half) (omega (arith, c.ilog2-shift.ensures.bound)) in
    let some : 0 < c.args.number = omega (arith, c.requires.from) in
    record {
      from = c.requires.from;
      below = c.requires.below;
      shifted = omega (arith, c.ilog2-shift.ensures.bound);
      reach = omega (arith, power_is half, c.ilog2-shift.ensures.next_power_gt);
      inverse = rw (power, c.from-2.ensures) (inverse_of (2 ^ (31 + half)) c.args.number (pow_pos (31 + half)) some);
    }
