use Rattle.std.proofs.Common.{◌∙◌, codes}
use Rattle.battle_report.specs.Lines.{twice_numbered}
use Rattle.battle_report.proofs.summary_line.units_line.Goals as goal

pub returns-clause-text : goal.returns-clause-text
returns-clause-text c =
    c.two_numbers.ensures.text
    ∙ (λ i. twice_numbered (codes "tick ") ((c.from.ensures ∙ c.tick.ensures.value) i) (codes " units ") ((c.from-2.ensures ∙ c.len.ensures.value) i) (codes " sums"))
