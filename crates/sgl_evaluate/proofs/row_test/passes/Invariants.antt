use Rattle.std.proofs.Common.{◌≡◌, drop}
use Rattle.sgl_values.specs.World.{row_at}
use Rattle.sgl_evaluate.specs.Frame.{context_of}
use Rattle.sgl_evaluate.specs.Rights.{passes_each}
use Rattle.sgl_evaluate.proofs.row_test.passes.Given as goal

abbrev pub invariant-loop-number : goal.invariant-loop-number
invariant-loop-number l =
    passes_each (context_of l.frame) (drop l.number l.tests) (row_at l.frame.tick.world.now.world l.row)
    ≡ passes_each (context_of l.frame) l.tests (row_at l.frame.tick.world.now.world l.row)
