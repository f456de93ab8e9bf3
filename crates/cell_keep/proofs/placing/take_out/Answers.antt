use Rattle.std.proofs.Common.{sym, subst}
use Rattle.std.specs.Prelude.{Contains}
use Rattle.cell_links.specs.Links.{IsLinked, Links, rows_of}
use Rattle.cell_keep.proofs.Relinking.{out, stays_out, was_linked}
use Rattle.cell_keep.proofs.placing.take_out.Goals as goal

pub returns-then-is_some-clause-out : goal.returns-then-is_some-clause-out
returns-then-is_some-clause-out c =
    subst (λ (links : Links). IsLinked links c.args.row → ⊥) (sym c.unlink.ensures.taken) (out c.args.links.now c.args.row)

pub returns-then-is_some-clause-others : goal.returns-then-is_some-clause-others
returns-then-is_some-clause-others c = λ other group apart there.
    subst (λ (links : Links). Contains (rows_of links group) other) (sym c.unlink.ensures.taken) (stays_out c.args.links.now c.args.row other group apart there)

pub returns-then-is_some-clause-within : goal.returns-then-is_some-clause-within
returns-then-is_some-clause-within c = λ other linked.
    was_linked c.args.links.now c.args.row other (subst (λ (links : Links). IsLinked links other) c.unlink.ensures.taken linked)
