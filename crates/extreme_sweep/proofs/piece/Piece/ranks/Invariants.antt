use Rattle.std.proofs.Common.{◌≡◌, map, take}
use Rattle.extreme_sweep.specs.Answers.{least_at}
use Rattle.extreme_sweep.specs.Ranking.{pair_of}
use Rattle.extreme_sweep.specs.Sweeping.{laid_points, IsSweeper}
use Rattle.extreme_sweep.proofs.piece.Piece.ranks.Given as goal

abbrev pub invariant-loop-number : goal.invariant-loop-number
invariant-loop-number l = record {
  sweeper : IsSweeper l.layout l.sweeper;
  found : map (pair_of l.layout.ranked.items) l.ranks.items ≡ map (least_at (laid_points l.layout) l.self.windows.now) (take l.number l.self.turns.now);
}
