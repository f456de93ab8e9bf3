use Rattle.std.proofs.Common.{◌≡◌, ◌+◌, ◌≤◌, length, drop}
use Rattle.std.specs.Prelude.{filter}
use Rattle.battle_algebra.specs.Sorts.{is_of_sort}
use Rattle.battle_algebra.proofs.bounds.count_of.Given as goal

abbrev pub invariant-loop-test : goal.invariant-loop-test
invariant-loop-test l = record {
  few : l.count ≤ l.test-index;
  rest : l.count + length (filter (is_of_sort l.sort) (drop l.test-index l.tests)) ≡ length (filter (is_of_sort l.sort) l.tests);
}
