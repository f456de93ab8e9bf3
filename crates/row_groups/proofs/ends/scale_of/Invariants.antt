use Rattle.std.proofs.Common.{negsuc, pos, ◌≤ℤ◌, take}
use Rattle.std.specs.Prelude.{All}
use Rattle.row_groups.proofs.ends.scale_of.Given as goal

abbrev pub invariant-loop-ranked : goal.invariant-loop-ranked
invariant-loop-ranked l = record {
  low : negsuc 999999999999 ≤ℤ l.least;
  order : l.least ≤ℤ l.greatest;
  high : l.greatest ≤ℤ pos 1000000000000;
  within : All (λ ranked. (l.least ≤ℤ ranked.value) × (ranked.value ≤ℤ l.greatest)) (take l.ranked-index l.all);
}
