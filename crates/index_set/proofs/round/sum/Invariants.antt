use Rattle.std.proofs.Common.{◌≡◌, ◌*◌, ◌+ℤ◌, ◌≤ℤ◌, length, map, pos}
use Rattle.std.specs.Prelude.{filter}
use Rattle.sgl_values.specs.World.{row_at}
use Rattle.sgl_typed.specs.Aggregate.{sum_of}
use Rattle.sgl_evaluate.specs.Frame.{context_of}
use Rattle.index_set.specs.Walks.{row_passes}
use Rattle.index_set.proofs.Rounding.{AreWalked}
use Rattle.index_set.proofs.round.sum.Given as goal

abbrev pub invariant-loop-row : goal.invariant-loop-row
invariant-loop-row l = record {
  added : l.sum ≡ sum_of l.attr (map (row_at l.frame.tick.world.now.world) (filter (row_passes (context_of l.frame) l.tests) l.yielded));
  low : pos 0 ≤ℤ (l.sum +ℤ pos (length l.yielded * 1000000000000));
  high : l.sum ≤ℤ pos (length l.yielded * 1000000000000);
  walked : AreWalked (length l.frame.tick.world.now.world.rows) l.fn.rows l.yielded l.row-iterator;
}
