-- What a batch holds, by the lemma.
use Rattle.effect_combine.proofs.BatchAmounts.{held_is}
use Rattle.effect_combine.proofs.law.batches_hold_amounts.Goals as goal

pub returns : goal.returns
returns c = held_is
