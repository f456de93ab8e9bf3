-- A word of a top attribute tells the greatest amount, by the lemma.
use Rattle.effect_combine.proofs.Finishing.{top_tells}
use Rattle.effect_combine.proofs.law.top_words_tell_the_greatest.Goals as goal

pub returns : goal.returns
returns c = top_tells
