use Rattle.std.proofs.Common.{drop, length}
use Rattle.tick_postprocess.proofs.PieceSteps.{first_row, IsJoined}
use Rattle.tick_postprocess.proofs.pieces.join_pieces.Given as goal

abbrev pub invariant-loop-at : goal.invariant-loop-at
invariant-loop-at l =
    IsJoined l.ending.tick.script.now l.ending.tick.world.now l.ending.combined.now l.ending.tick.seed (first_row (length l.ending.tick.world.now.world.rows) (drop l.at l.pieces)) l.stay l.children l.out
