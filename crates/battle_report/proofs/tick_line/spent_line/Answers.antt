use Rattle.std.proofs.Common.{codes, ◌∙◌}
use Rattle.battle_report.specs.Lines.{twice_numbered}
use Rattle.battle_report.proofs.tick_line.spent_line.Goals as goal

pub returns : goal.returns
returns c = c.two_numbers.ensures.text ∙ (λ i. twice_numbered (codes "tick ") (c.from.ensures i) (codes ": keys spent after ") (c.from-2.ensures i) (codes "\n"))
