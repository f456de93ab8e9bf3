use Rattle.std.proofs.Common.{◌∙◌, [], ap, length, subst, sym}
use Rattle.std.proofs.lemmas.List.{length-replicate}
use Rattle.cell_links.specs.Links.{IsLinked, Links}
use Rattle.cell_keep.proofs.Relinking.{none_linked}
use Rattle.cell_keep.proofs.placing.no_links.Goals as goal

pub returns-clause-full : goal.returns-clause-full
returns-clause-full c = ap (λ (links : Links). length links.lists) c.in_ok-links.ensures ∙ length-replicate c.args.lists []

pub returns-clause-none : goal.returns-clause-none
returns-clause-none c = λ row. subst (λ (links : Links). IsLinked links row → ⊥) (sym c.in_ok-links.ensures) (none_linked c.args.rows c.args.lists row)
