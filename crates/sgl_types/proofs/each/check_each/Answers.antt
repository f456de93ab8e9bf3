use Rattle.sgl_types.specs.Scope.{scope_at}
use Rattle.sgl_types.proofs.Arms.{found-more, made-more}
use Rattle.sgl_types.proofs.each.check_each.Goals as goal

pub loop-part-preserved : goal.loop-part-preserved
loop-part-preserved g c = (
  made-more (g.T.Check.typed (scope_at c.args.at.now)) c.args.parts.now c.loop-part.part-index c.part-item.result c.loop-part-test.true c.part-item.is c.in_ok-check.ensures.made c.in_ok-push.ensures.ok c.loop-part.invariant.0,
  found-more (g.T.Check.faults (scope_at c.args.at.now)) c.args.parts.now c.loop-part.part-index c.part-item.result c.loop-part.found c.loop-part-test.true c.part-item.is c.in_ok-check.ensures.found c.loop-part.invariant.1,
)
