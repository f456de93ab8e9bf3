use Rattle.std.proofs.Common.{◌≡◌, drop}
use Rattle.sgl_evaluate.specs.Frame.{context_of}
use Rattle.sgl_evaluate.specs.Rights.{right_of}
use Rattle.index_set.specs.Keyed.{key_asked}
use Rattle.index_set.proofs.keyed.key_asked.Given as goal

abbrev pub invariant-loop-number : goal.invariant-loop-number
invariant-loop-number l = key_asked (right_of (context_of l.frame)) (drop l.number l.tests) ≡ key_asked (right_of (context_of l.frame)) l.tests
