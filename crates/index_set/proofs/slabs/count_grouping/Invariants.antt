use Rattle.std.proofs.Common.{◌≡◌, ◌+◌, ◌≤◌, length, drop}
use Rattle.test_boxes.specs.Readings.{grouping}
use Rattle.test_boxes.specs.declared.reading.Reading.TheVariants.{Away}
use Rattle.index_set.proofs.slabs.count_grouping.Given as goal

abbrev pub invariant-loop-test : goal.invariant-loop-test
invariant-loop-test l = record {
  few : l.count ≤ l.test-index;
  rest : l.count + length (grouping Away (drop l.test-index l.tests)) ≡ length (grouping Away l.tests);
}
