-- Each word stands for the amounts of its cell, by the clauses of the items.
use Rattle.std.proofs.Common.{arith}
use Rattle.effect_combine.proofs.Grids.{length-amounts}
use Rattle.effect_combine.proofs.law.combined_words_stand.Goals as goal

pub returns : goal.returns
returns c rows tags items table are few row attr in' in'' = record {
  few = omega (arith, few, length-amounts items row attr);
  numbers = are.numbers row attr in' in'';
  is = are.words row attr in' in'';
}
