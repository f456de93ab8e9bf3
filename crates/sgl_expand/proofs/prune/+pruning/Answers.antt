use Rattle.std.proofs.Common.{◌∙◌, ap, sym, Some}
use Rattle.sgl_typed.specs.declared.script.TStmt.TheVariants.{If}
use Rattle.sgl_expand.specs.Pruned.{pruned, pruned_all}
use Rattle.sgl_expand.proofs.Equations.{pruned-If}
use Rattle.sgl_expand.proofs.prune.+pruning.Goals as goal

pub prune_statement-returns-in_ok-no-in-If : goal.prune_statement-returns-in_ok-no-in-If
prune_statement-returns-in_ok-no-in-If t c =
    let done = c.args.done.now in
    (λ i. Some (If (c.in_ok-cond-in-If.ensures i) c.in-If.place
    ((c.in_ok-yes-in-If.ensures ∙ ap (pruned_all done) c.as_slice.ensures) i)
    ((c.in_ok-no-in-If.ensures ∙ ap (pruned_all done) c.as_slice-in-If.ensures) i)))
    ∙ sym (ap (pruned done) c.in-If.is ∙ pruned-If done c.in-If.cond c.in-If.place c.in-If.yes c.in-If.no)
