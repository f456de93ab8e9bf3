use Rattle.tick_postprocess.specs.Blocks.{AreNumbers}
use Rattle.tick_postprocess.proofs.rules.are_numbers.Given as goal

abbrev pub invariant-loop-at : goal.invariant-loop-at
invariant-loop-at l = AreNumbers l.known l.at
