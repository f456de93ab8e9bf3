use Rattle.std.proofs.Common.{◌<◌, ℕ, Bool, pos, arith}
use Rattle.std.specs.Ordering.{int_eq}
use Rattle.sgl_lanes.specs.Lanes.{lane_of}
use Rattle.plan_executor.proofs.RowSets.{runs_below, runs_more, runs_small}
use Rattle.plan_executor.proofs.row_set.true_rows.Goals as goal

pub overflow_mul-rows : goal.overflow_mul-rows
overflow_mul-rows c =
    let less = runs_below c.loop-done.rows c.loop-done.done c.loop-done-test.true c.loop-done.invariant.small in
    omega (arith, less)

pub overflow_add-rows : goal.overflow_add-rows
overflow_add-rows c =
    let less = runs_below c.loop-done.rows c.loop-done.done c.loop-done-test.true c.loop-done.invariant.small in
    let small = c.true_run.ensures.small in
    omega (arith, less, small)

pub loop-done-preserved : goal.loop-done-preserved
loop-done-preserved c =
    let it = c.loop-done.invariant in
    let set = c.loop-done.rows in
    let done = c.loop-done.done in
    let run = c.true_run.result in
    let small : run < 256 = c.true_run.ensures.small in
    let is_true : ℕ → Bool = λ row. int_eq (lane_of c.args.numbers.now row) (pos 1) in
    record {
      small = runs_small set run done small it.small;
      are = runs_more is_true set run done (omega arith) small c.true_run.ensures.rows it.are;
    }
