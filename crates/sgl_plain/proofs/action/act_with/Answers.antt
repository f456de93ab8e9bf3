use Rattle.std.proofs.Common.{flat_map, subst, sym, ◌∙◌}
use Rattle.sgl_typed.specs.Items.{clause_items}
use Rattle.sgl_evaluate.specs.Frame.{context_of}
use Rattle.sgl_plain.specs.Collected.{Adds}
use Rattle.sgl_plain.proofs.Adding.{Leads-over}
use Rattle.sgl_plain.proofs.action.act_with.Goals as goal

pub returns-then-is_over : goal.returns-then-is_over
returns-then-is_over c =
    subst (λ ons. Adds c.args.out.now c.loop-clause.out (flat_map (clause_items (context_of c.args.frame.now)) ons)) c.as_slice-clause-items.ensures
    (Leads-over (sym c.is_over.ensures ∙ c.if-is_over.true) c.loop-clause.invariant)
