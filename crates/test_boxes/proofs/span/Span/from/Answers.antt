use Rattle.std.proofs.Common.{arith}
use Rattle.std.proofs.lemmas.Int.{ints}
use Rattle.test_boxes.proofs.span.Span.from.Goals as goal

pub returns : goal.returns
returns c = λ v. grind (arith, ints)
