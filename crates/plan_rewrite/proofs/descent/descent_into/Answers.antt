use Rattle.std.proofs.Common.{arith, subst, sym}
use Rattle.plan_rewrite.proofs.Falling.{Descending, descends_none, descends_more, descends_all}
use Rattle.plan_rewrite.proofs.descent.descent_into.Goals as goal

pub loop-i-init : goal.loop-i-init
loop-i-init c =
    subst (Descending c.args.nodes.now c.in_ok-start.start c.in_ok-start.start c.args.slot) (sym c.new-descents.ensures)
    (descends_none c.args.nodes.now c.in_ok-start.start c.args.slot (omega (arith, c.in_ok-start.ensures)))

pub loop-i-preserved : goal.loop-i-preserved
loop-i-preserved c =
    descends_more c.args.nodes.now c.in_ok-start.start c.loop-i.i c.args.slot c.index-nodes-i.result c.loop-i.descents c.descend_over.new.descents c.loop-i.auto.i (omega (arith, c.loop-i-test.true)) c.index-nodes-i.is
    c.in_ok-descend_over.ensures c.loop-i.invariant

pub returns : goal.returns
returns c =
    descends_all c.args.nodes.now c.in_ok-start.start c.loop-i.i c.args.count c.args.slot c.loop-i.descents c.in_ok-descent.descent c.in_ok-start.ensures
    (omega (arith, c.loop-i-test.false, c.loop-i.auto.i-end (omega (arith, c.in_ok-start.ensures)))) c.in_ok-descent.ensures.top c.loop-i.invariant
