use Rattle.std.proofs.Common.{◌≡◌, length}
use Rattle.std.specs.Prelude.{filter}
use Rattle.sgl_evaluate.specs.Frame.{context_of}
use Rattle.index_set.specs.Walks.{row_passes}
use Rattle.index_set.proofs.Rounding.{AreWalked}
use Rattle.index_set.proofs.round.count.Given as goal

abbrev pub invariant-loop-row : goal.invariant-loop-row
invariant-loop-row l = record {
  counted : l.count ≡ length (filter (row_passes (context_of l.frame) l.tests) l.yielded);
  walked : AreWalked (length l.frame.tick.world.now.world.rows) l.fn.rows l.yielded l.row-iterator;
}
