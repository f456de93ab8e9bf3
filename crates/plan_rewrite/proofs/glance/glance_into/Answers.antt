use Rattle.std.proofs.Common.{arith, reverse, sym, ◌∙◌}
use Rattle.std.proofs.lemmas.List.{length-reverse}
use Rattle.plan_rewrite.proofs.Glancing.{glanced_none, glanced_reads, glanced_more, glanced_all, node_behind}
use Rattle.plan_rewrite.proofs.glance.glance_into.Goals as goal

pub loop-i-init : goal.loop-i-init
loop-i-init c = glanced_none (reverse c.args.nodes.now) c.args.slot

pub returns-then-not-node_avoids : goal.returns-then-not-node_avoids
returns-then-not-node_avoids c =
    glanced_reads (reverse c.args.nodes.now) c.loop-i.i c.args.count c.args.slot c.loop-i.sure c.index-nodes-nodes.result (omega (arith, c.loop-i-test.true, c.if-count-nodes.false, length-reverse c.args.nodes.now)) c.loop-i-test.true
    (node_behind c.args.nodes.now c.loop-i.i _ c.index-nodes-nodes.result (omega (arith, c.loop-i-test.true, c.if-count-nodes.false)) (omega arith) c.index-nodes-nodes.is)
    (sym c.node_avoids.ensures ∙ c.if-not-node_avoids.true) c.loop-i.invariant

pub loop-i-preserved : goal.loop-i-preserved
loop-i-preserved c =
    glanced_more (reverse c.args.nodes.now) c.loop-i.i c.args.slot c.loop-i.sure c.is_sure_behind-sure.result c.index-nodes-nodes.result (omega (arith, c.loop-i-test.true, c.if-count-nodes.false, length-reverse c.args.nodes.now))
    (node_behind c.args.nodes.now c.loop-i.i _ c.index-nodes-nodes.result (omega (arith, c.loop-i-test.true, c.if-count-nodes.false)) (omega arith) c.index-nodes-nodes.is)
    (sym c.node_avoids.ensures ∙ c.if-not-node_avoids.false) (sym c.is_open_split.ensures ∙ c.if-is_open_split.false) c.is_sure_behind-sure.ensures c.loop-i.invariant

pub returns : goal.returns
returns c = glanced_all (reverse c.args.nodes.now) c.loop-i.i c.args.count c.args.slot c.loop-i.sure (omega (arith, c.loop-i-test.false, c.loop-i.auto.i-end)) c.loop-i.invariant
