use Rattle.extreme_sweep.specs.Answers.{AreSwept}
use Rattle.extreme_sweep.proofs.piece.sweep_turns.Given as goal

abbrev pub invariant-loop-piece : goal.invariant-loop-piece
invariant-loop-piece g l = AreSwept l.layout l.windows l.ranks.items
