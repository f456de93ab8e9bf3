-- What a batch holds with a word more, by the lemmas.
use Rattle.effect_combine.proofs.BatchLemmas.{held_for-taken, held_for-others}
use Rattle.effect_combine.proofs.law.batches_take_words.Goals as goal

pub returns : goal.returns
returns c = record {
  taken = λ tag row attr word cells. held_for-taken tag row attr word cells;
  others = λ tag row attr word cells other r a apart. held_for-others tag row attr word other r a apart cells;
}
