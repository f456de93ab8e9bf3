use Rattle.std.proofs.Common.{◌≡◌, drop}
use Rattle.sgl_evaluate.specs.Frame.{context_of}
use Rattle.sgl_evaluate.specs.Rights.{first_fault_of}
use Rattle.sgl_evaluate.proofs.rights.first_fault.Given as goal

abbrev pub invariant-loop-test : goal.invariant-loop-test
invariant-loop-test l = first_fault_of (context_of l.frame) (drop l.test-index l.tests) ≡ first_fault_of (context_of l.frame) l.tests
