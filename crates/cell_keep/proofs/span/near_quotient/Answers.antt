use Rattle.std.proofs.Common.{◌∙◌, ℤ, pos, negsuc, ap, subst, sym}
use Rattle.std.proofs.lemmas.Int.{to_z-of_z}
use mir.Syntax.{w64}
use Rattle.cell_keep.specs.Grid.{quotient}
use Rattle.std.specs.Prelude.{◌≤ℤ◌}
use Rattle.cell_keep.proofs.Measuring.{quotient-near}
use Rattle.cell_keep.proofs.span.near_quotient.Goals as goal

pub returns-clause-low : goal.returns-clause-low
returns-clause-low c = subst (λ (z : ℤ). negsuc 2000000000000 ≤ℤ z) (sym (to_z-of_z w64 c.quotient.result (record { sfits = c.quotient.type_inv }) ∙ c.quotient.ensures ∙ ap quotient (to_z-of_z w64 c.args.number c.ranges.number))) (quotient-near c.args.number c.requires.low c.requires.high).0

pub returns-clause-high : goal.returns-clause-high
returns-clause-high c = subst (λ (z : ℤ). z ≤ℤ pos 2000000000000) (sym (to_z-of_z w64 c.quotient.result (record { sfits = c.quotient.type_inv }) ∙ c.quotient.ensures ∙ ap quotient (to_z-of_z w64 c.args.number c.ranges.number))) (quotient-near c.args.number c.requires.low c.requires.high).1
