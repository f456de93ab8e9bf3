-- No rule so far assigns the attribute.
use Rattle.std.proofs.Common.{◌≡◌, drop}
use Rattle.tick_postprocess.specs.Blocks.{chosen}
use Rattle.tick_postprocess.proofs.assigning.chosen.Given as goal

abbrev pub invariant-loop-at : goal.invariant-loop-at
invariant-loop-at l = chosen l.rules l.known l.attr l.old ≡ chosen (drop l.at l.rules) (drop l.at l.known) l.attr l.old
