use Rattle.sgl_parser.proofs.Returns.{part_broken}
use Rattle.std.proofs.Common.{arith}
use Rattle.sgl_parser.proofs.Parts.{test_follows, not_here}
use Rattle.sgl_parser.proofs.SoFar.{none_read, more_behind, breaks_behind, all_read}
use Rattle.sgl_parser.specs.Scripts.{one_test}
use Rattle.sgl_parser.proofs.reading.Reader.more_tests.Goals as goal

pub tests-init : goal.tests-init
tests-init c = none_read c.requires

pub tests-preserved : goal.tests-preserved
tests-preserved c =
    more_behind c.tests.invariant test_follows (λ zs s. s) c.in-Some.ensures.list c.in-Some.ensures.kind c.in_ok-test.ensures.passes
    (one_test c.in-Some.ensures.kind c.in_ok-test.ensures.spells) (omega (arith, c.in_ok-test.ensures.shorter)) c.in_ok-test.ensures.of c.in_ok-push.ensures.ok

pub returns : goal.returns
returns c = all_read c.tests.invariant (not_here c.tests.rest.now c.in_default.ensures.none)

pub returns-in_err-test : goal.returns-in_err-test
returns-in_err-test c = part_broken c.from_residual.result _ _ c.from_residual.ensures.1 (breaks_behind c.tests.invariant test_follows (λ zs s. s) c.in-Some.ensures.list c.in-Some.ensures.kind) c.in_err-test.ensures
