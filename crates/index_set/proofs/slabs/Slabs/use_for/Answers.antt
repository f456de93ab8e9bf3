use Rattle.std.proofs.Common.{◌≤◌, length, subst, sym}
use Rattle.battle_algebra.specs.Ways.{x_of, y_of}
use Rattle.test_boxes.specs.Readings.{grouping}
use Rattle.test_boxes.specs.declared.reading.Reading.{Reading}
use Rattle.index_set.proofs.Apart.{left_few}
use Rattle.index_set.proofs.slabs.Slabs.use_for.Goals as goal

pub sorting_for-requires-clause-few : goal.sorting_for-requires-clause-few
sorting_for-requires-clause-few g c lifetimes outlive =
    let tests = c.args.tests.now in
    subst (λ (how : Reading). length (grouping how tests) ≤ 4) (sym c.reading.ensures)
    (left_few c.left_for-left.result (x_of tests) (y_of tests) tests c.left_for-left.ensures c.requires.few)

pub use_of-requires-clause-few : goal.use_of-requires-clause-few
use_of-requires-clause-few g c =
    let tests = c.args.tests.now in
    left_few c.left_for-left.result (x_of tests) (y_of tests) tests c.left_for-left.ensures c.requires.few
