use Rattle.std.specs.Prelude.{◌≡◌, ℤ, drop}
use Rattle.sgl_typed.specs.declared.script.TTest.{TTest}
use Rattle.index_set.specs.Keyed.{key_asked}
use Rattle.index_set.proofs.aim.asks_for_key.Given as goal

abbrev pub invariant-loop-test : goal.invariant-loop-test
invariant-loop-test l = (right : TTest → ℤ) → key_asked right l.tests ≡ key_asked right (drop l.test-index l.tests)
