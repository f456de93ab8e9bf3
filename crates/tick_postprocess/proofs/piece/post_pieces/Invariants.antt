use Rattle.std.proofs.Common.{◌≤◌, length}
use Rattle.std.specs.Prelude.{All}
use Rattle.tick_postprocess.specs.Pieces.{AreJoined, IsPiece}
use Rattle.tick_postprocess.proofs.piece.post_pieces.Given as goal

abbrev pub invariant-loop : goal.invariant-loop
invariant-loop l = record {
  each : All (IsPiece l.world) l.pieces.items;
  joined : AreJoined 0 l.first l.pieces.items;
  inside : l.first ≤ length l.world.world.rows;
}
