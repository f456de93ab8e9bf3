use Rattle.std.proofs.Common.{◌∷◌, [], OnOk, ap, subst, sym, ◌∙◌}
use Rattle.sgl_typed.specs.Items.{faulty}
use Rattle.sgl_evaluate.specs.Frame.{context_of}
use Rattle.sgl_evaluate.specs.Rights.{first_fault_of}
use Rattle.sgl_plain.specs.Collected.{Adds}
use Rattle.sgl_plain.proofs.StatementSteps.{clause_fault, clause_rows}
use Rattle.sgl_plain.proofs.action.act_clause.Goals as goal

pub returns-in-Err : goal.returns-in-Err
returns-in-Err c =
    let seen = context_of c.args.frame.now in
    subst (λ more. OnOk c.push.result (Adds c.args.out.now c.push.new.self more))
    (ap (λ item. item ∷ []) (c.faulty.ensures ∙ ap (λ key. faulty key c.in-Err.fault 0) c.key.ensures)
    ∙ clause_fault seen c.args.clause.now c.in-Err.fault (sym c.in-Err.ensures.fault ∙ ap (first_fault_of seen) c.as_slice.ensures))
    c.push.ensures

pub returns-in-Ok : goal.returns-in-Ok
returns-in-Ok c =
    let seen = context_of c.args.frame.now in
    subst (λ more. OnOk c.act_on_rows.result (Adds c.args.out.now c.act_on_rows.new.out more))
    (clause_rows seen c.args.clause.now (sym c.in-Ok.ensures.whole ∙ ap (first_fault_of seen) c.as_slice.ensures))
    c.act_on_rows.ensures
