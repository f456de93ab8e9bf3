use Rattle.std.proofs.Common.{◌∙◌, ◌&&◌, ap, sym}
use Rattle.test_boxes.specs.Ranges.{holds}
use Rattle.test_boxes.proofs.Steps.{along_none, along_some}
use Rattle.test_boxes.proofs.span.Span.bounded.Goals as goal

pub returns-in-None : goal.returns-in-None
returns-in-None c = λ axis test is v. ap (λ b. b && holds c.args.self v) (along_none axis test v c.args.number (sym c.in-None.is ∙ is))

pub returns-in-Some : goal.returns-in-Some
returns-in-Some c = λ axis test is v. c.compared.ensures v ∙ ap (λ b. b && holds c.args.self v) (along_some axis test c.in-Some.op v c.args.number (sym c.in-Some.is ∙ is))
