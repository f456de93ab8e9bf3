-- Words are the same in any order, by the lemma.
use Rattle.effect_combine.proofs.Merging.{word_for-IsPermutation}
use Rattle.effect_combine.proofs.law.words_ignore_order.Goals as goal

pub returns : goal.returns
returns c = word_for-IsPermutation
