use Rattle.std.proofs.Common.{◌≡◌, ◌≤◌, length, take}
use Rattle.std.specs.List.{filter}
use Rattle.sgl_evaluate.specs.Frame.{context_of}
use Rattle.sgl_evaluate.specs.Rights.{passes_each}
use Rattle.sgl_evaluate.proofs.fold.count.Given as goal

abbrev pub invariant-loop-row : goal.invariant-loop-row
invariant-loop-row l = record {
  counted : l.count ≡ length (filter (passes_each (context_of l.frame) l.tests) (take l.row l.frame.tick.world.now.world.rows));
  small : l.count ≤ l.row;
}
