use Rattle.std.proofs.Common.{arith}
use Rattle.sgl_evaluate.specs.Frame.{context_of}
use Rattle.sgl_evaluate.specs.Rights.{right_of}
use Rattle.sgl_evaluate.proofs.Steps.{filled}
use Rattle.sgl_evaluate.proofs.rights.Rights.fill.Goals as goal

pub returns-in-None-clause-numbers : goal.returns-in-None-clause-numbers
returns-in-None-clause-numbers c =
    filled (right_of (context_of c.args.frame.now)) c.args.tests.now c.loop-number.self.numbers c.loop-number.number (omega arith) c.loop-number.invariant.read
