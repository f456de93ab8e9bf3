use Rattle.battle_algebra.specs.Ways.{x_of, y_of}
use Rattle.index_set.proofs.Apart.{others_few}
use Rattle.index_set.proofs.laying.lay_others.Goals as goal

pub of-attrs-requires : goal.of-attrs-requires
of-attrs-requires g c =
    let tests = c.args.tests.now in
    others_few (x_of tests) (y_of tests) tests (c.stand_others.ensures c.if-stand_others.true)
