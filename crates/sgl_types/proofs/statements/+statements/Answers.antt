use Rattle.std.proofs.Common.{◌+◌, ap, sym, ◌∙◌}
use Rattle.sgl_types.specs.Statements.{standing, lets, behind}
use Rattle.sgl_types.proofs.Walks.{walked, checked-If, behind-If}
use Rattle.sgl_types.proofs.statements.+statements.Goals as goal

pub check_block-loop-statement-preserved : goal.check_block-loop-statement-preserved
check_block-loop-statement-preserved t c =
    walked (standing c.args.body.now c.args.progress.now.locals c.args.progress.now.next) c.args.progress.now.found c.args.statements.now
    (standing c.args.body.now c.loop-statement.progress.locals c.loop-statement.progress.next)
    (standing c.args.body.now c.check_statement.new.progress.locals c.check_statement.new.progress.next)
    c.loop-statement.progress.found c.check_statement.new.progress.found c.loop-statement.made c.push.new.self c.statement-item.result c.in_ok-check_statement.field-0 c.loop-statement.statement-index
    c.loop-statement-test.true c.statement-item.is c.in_ok-check_statement.ensures.behind c.in_ok-check_statement.ensures.found c.in_ok-check_statement.ensures.made c.in_ok-push.ensures.ok c.loop-statement.invariant

pub check_statement-returns-in_ok-other-in-If : goal.check_statement-returns-in_ok-other-in-If
check_statement-returns-in_ok-other-in-If t c =
    let body = c.args.body.now in
    let start = standing body c.args.progress.now.locals c.args.progress.now.next in
    let checked =
    checked-If body c.args.progress.now c.check_condition.new.progress c.check_block.new.progress c.in-If.cond c.in-If.yes c.in-If.no c.as_slice.result.now c.as_slice-in-If.result.now
    c.in-If.is c.as_slice.ensures c.as_slice-in-If.ensures
    c.in_ok-made-in-If.ensures.locals c.in_ok-made-in-If.ensures.next c.in_ok-taken-in-If.ensures.locals c.in_ok-taken-in-If.ensures.next
    c.in_ok-made-in-If.ensures.made c.place_of.ensures c.in_ok-taken-in-If.ensures.made c.in_ok-other-in-If.ensures.made
    c.in_ok-made-in-If.ensures.found c.in_ok-taken-in-If.ensures.found c.in_ok-other-in-If.ensures.found in
    record {
      made = checked.0;
      behind =
          (λ i. standing body ((c.in_ok-other-in-If.ensures.locals ∙ c.in_ok-taken-in-If.ensures.locals ∙ c.in_ok-made-in-If.ensures.locals) i)
          ((c.in_ok-other-in-If.ensures.next ∙ (λ k. lets (c.as_slice-in-If.ensures k) + (c.in_ok-taken-in-If.ensures.next ∙ (λ j. lets (c.as_slice.ensures j) + c.in_ok-made-in-If.ensures.next j)) k)) i))
          ∙ sym (ap (λ s. behind s start) c.in-If.is ∙ behind-If start c.in-If.cond c.in-If.yes c.in-If.no);
      found = checked.1;
    }
