use Rattle.sgl_types.specs.Items.{setting_of}
use Rattle.sgl_types.specs.TypedItems.{typed_clause}
use Rattle.sgl_types.proofs.Arms.{clause-more, made-more}
use Rattle.sgl_types.proofs.actions.check_clauses.Goals as goal

pub loop-clause-preserved : goal.loop-clause-preserved
loop-clause-preserved c = (
  made-more (typed_clause (setting_of c.args.context.now) c.args.params.now) c.args.ons.now c.loop-clause.clause-index c.clause-item.result c.loop-clause-test.true c.clause-item.is c.in_ok-check_clause.ensures.made c.in_ok-push.ensures.ok c.loop-clause.invariant.0,
  clause-more (setting_of c.args.context.now) c.args.params.now c.loop-clause.before c.args.ons.now c.loop-clause.clause-index c.clause-item.result c.loop-clause.found c.loop-clause-test.true c.clause-item.is c.note_if.ensures c.in_ok-check_clause.ensures.found c.in_ok-before.ensures c.loop-clause.invariant.1,
)
