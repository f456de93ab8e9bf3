use Rattle.index_set.specs.Owned.{AreOwn}
use Rattle.index_set.specs.Rounds.{IsRound}
use Rattle.index_set.proofs.round.round_aggs.Given as goal

abbrev pub invariant-loop-number : goal.invariant-loop-number
invariant-loop-number g l = AreOwn (IsRound l.of.world.now.world) l.rounds.items l.number l.of.script.now
