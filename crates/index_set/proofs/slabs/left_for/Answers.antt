use Rattle.battle_algebra.specs.Ways.{x_of, y_of}
use Rattle.index_set.proofs.Apart.{others_few}
use Rattle.index_set.proofs.slabs.left_for.Goals as goal

pub has_few_others-requires : goal.has_few_others-requires
has_few_others-requires c =
    let tests = c.args.tests.now in
    others_few (x_of tests) (y_of tests) tests (c.stand_others.ensures c.if-stand_others.true)
