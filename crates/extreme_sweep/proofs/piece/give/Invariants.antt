use Rattle.std.proofs.Common.{◌≡◌, length}
use Rattle.extreme_sweep.specs.Answers.{Gives}
use Rattle.extreme_sweep.proofs.piece.give.Given as goal

abbrev pub invariant-loop-number : goal.invariant-loop-number
invariant-loop-number l = record {
  count : length l.ranks.items ≡ length l.initial.ranks.items;
  gives : Gives l.initial.ranks.items l.turns l.found l.ranks.items;
}
