use Rattle.std.proofs.Common.{◌<◌, length, ◌∙◌, arith}
use Rattle.std.proofs.lemmas.Int.{ints}
use Rattle.sgl_evaluate.specs.Frame.{context_of}
use Rattle.sgl_evaluate.specs.Rights.{passes_each}
use Rattle.sgl_evaluate.proofs.Totals.{with_row, without_row}
use Rattle.sgl_evaluate.proofs.fold.sum.Goals as goal
use Rattle.sgl_evaluate.proofs.fold.sum.Goals.{then-passes, else-passes}

pub overflow_add-sum : goal.overflow_add-sum
overflow_add-sum c = omega (arith, ints)

pub loop-row-preserved : goal.loop-row-preserved
loop-row-preserved c =
    let lt : c.loop-row.row < length c.args.frame.now.tick.world.now.world.rows = omega arith in
    elim c.if-passes.branch [
      | then-passes w ↦ record {
        added = with_row c.args.attr (passes_each (context_of c.args.frame.now) c.args.tests.now) c.args.frame.now.tick.world.now.world.rows c.loop-row.row _ _ _ w.get-sum.result lt w.if-passes.ensures c.loop-row.invariant.added
            (w.get-sum.ensures.value ∙ w.attribute_of.ensures) (omega (arith, ints));
        low = omega (arith, ints);
        high = omega (arith, ints);
      }
      | else-passes w ↦ record {
        added = w.sum-is ∙ without_row c.args.attr (passes_each (context_of c.args.frame.now) c.args.tests.now) c.args.frame.now.tick.world.now.world.rows c.loop-row.row _ _ lt w.if-passes.ensures c.loop-row.invariant.added;
        low = omega (arith, ints);
        high = omega (arith, ints);
      }
    ]
