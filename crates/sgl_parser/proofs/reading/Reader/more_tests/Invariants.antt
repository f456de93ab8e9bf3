use Rattle.std.proofs.Common.{length}
use Rattle.sgl_parser.specs.ItemShape.{BehindTests, MoreTestShape}
use Rattle.sgl_parser.specs.Scripts.{SpellsMoreTest}
use Rattle.sgl_parser.proofs.reading.Reader.more_tests.Given as goal
use Rattle.sgl_parser.proofs.SoFar.{SoFar}

-- what was read so far, behind what was there before
abbrev pub invariant-tests : goal.invariant-tests
invariant-tests l = SoFar MoreTestShape BehindTests (SpellsMoreTest l.self.text.now) l.self.text.now l.tokens l.rest l.fn.before l.tests

abbrev pub decreases-tests : goal.decreases-tests
decreases-tests l = length l.rest
