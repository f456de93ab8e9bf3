-- One sum more is that of one point more.
use Rattle.std.proofs.Common.{◌+◌, take, arith, rules}
use Rattle.std.proofs.lemmas.Int.{ints}
use Rattle.range_aggregate.specs.Boxes.{weight_of}
use Rattle.range_aggregate.proofs.Weights.{weight_of_more, values_push}
use Rattle.range_aggregate.proofs.level.running_sums.Goals as goal

pub loop-point-preserved : goal.loop-point-preserved
loop-point-preserved c =
    let points = c.args.points.now in
    let i = c.loop-point.point-index in
    let now = c.loop-point.invariant in
    let weighs = weight_of_more points i c.point-item.result (omega arith) c.point-item.is in
    record {
      long = search rules;
      each = λ k d bound. rw c.in_ok-push-2.ensures.items
          (values_push (λ n. weight_of (take n points)) c.loop-point.sums.items (i + 1) _ now.long (λ n e lt. now.each n e (omega (arith, lt)))
          (omega (arith, ints, weighs, now.last, now.low, now.high, c.get-sum.ensures.value)) k d bound);
      last = omega (arith, ints, weighs, now.last, now.low, now.high, c.get-sum.ensures.value);
      low = omega (arith, ints, now.low);
      high = omega (arith, ints, now.high);
    }
