use Rattle.std.proofs.Common.{◌≡◌, ◌*◌, ◌+ℤ◌, ◌≤ℤ◌, pos, take}
use Rattle.std.specs.List.{filter}
use Rattle.sgl_typed.specs.Aggregate.{sum_of}
use Rattle.sgl_evaluate.specs.Frame.{context_of}
use Rattle.sgl_evaluate.specs.Rights.{passes_each}
use Rattle.sgl_evaluate.proofs.fold.sum.Given as goal

abbrev pub invariant-loop-row : goal.invariant-loop-row
invariant-loop-row l = record {
  added : l.sum ≡ sum_of l.attr (filter (passes_each (context_of l.frame) l.tests) (take l.row l.frame.tick.world.now.world.rows));
  low : pos 0 ≤ℤ (l.sum +ℤ pos (l.row * 1000000000000));
  high : l.sum ≤ℤ pos (l.row * 1000000000000);
}
