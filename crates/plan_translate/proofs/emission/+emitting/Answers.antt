use Rattle.std.proofs.Common.{arith, ◌+◌, ◌-◌, ◌++◌, length}
use Rattle.plan_translate.specs.Translation.{translated, calls_of_all}
use Rattle.battle_algebra.specs.Tree.{numbered}
use Rattle.plan_translate.proofs.Writing.{block_more, block_last, calls_more, calls_last, if_next, if_written, joined_heads}
use Rattle.plan_translate.proofs.emission.+emitting.Goals as goal

pub emit_block-loop-at-preserved : goal.emit_block-loop-at-preserved
emit_block-loop-at-preserved t c = record {
  next =
      calls_more c.args.block.now c.index-block-at.result c.loop-at.at c.loop-at.out.next c.emit_before.new.out.next (c.args.out.now.next + calls_of_all c.args.block.now)
      (omega (arith, c.loop-at-test.true)) c.index-block-at.is c.loop-at.invariant.next c.in_ok-emit_before.ensures.next;
  rest =
      block_more c.args.actions.now c.loop-at.out.nodes c.emit_before.new.out.nodes
      (c.args.out.now.nodes ++ numbered (translated c.args.actions.now c.args.block.now c.args.out.now.next) (length c.args.out.now.nodes))
      c.args.block.now c.index-block-at.result c.loop-at.at c.loop-at.out.next c.emit_before.new.out.next
      (omega (arith, c.loop-at-test.true)) c.index-block-at.is c.loop-at.invariant.rest c.in_ok-emit_before.ensures.next c.in_ok-emit_before.ensures.heads;
}

pub emit_block-returns-clause-next : goal.emit_block-returns-clause-next
emit_block-returns-clause-next t c =
    calls_last c.args.block.now c.index-block-last.result c.loop-at.at (length c.args.block.now - 1) c.loop-at.out.next c.emit_statement.new.out.next (c.args.out.now.next + calls_of_all c.args.block.now)
    (omega (arith, c.loop-at-test.false, c.loop-at.auto.at-end, c.if-block-eq0.false)) (omega (arith, c.loop-at-test.false, c.loop-at.auto.at-end, c.if-block-eq0.false))
    c.index-block-last.is c.loop-at.invariant.next c.in_ok-emit_statement.ensures.next

pub emit_block-returns-clause-nodes : goal.emit_block-returns-clause-nodes
emit_block-returns-clause-nodes t c =
    block_last c.args.actions.now c.loop-at.out.nodes c.emit_statement.new.out.nodes
    (c.args.out.now.nodes ++ numbered (translated c.args.actions.now c.args.block.now c.args.out.now.next) (length c.args.out.now.nodes))
    c.args.block.now c.index-block-last.result c.loop-at.at (length c.args.block.now - 1) c.loop-at.out.next
    (omega (arith, c.loop-at-test.false, c.loop-at.auto.at-end, c.if-block-eq0.false)) (omega (arith, c.loop-at-test.false, c.loop-at.auto.at-end, c.if-block-eq0.false))
    c.index-block-last.is c.loop-at.invariant.rest c.in_ok-emit_statement.ensures.nodes

pub emit_joined-returns-clause-heads : goal.emit_joined-returns-clause-heads
emit_joined-returns-clause-heads t c =
    joined_heads c.args.actions.now c.args.statement.now c.args.out.now.nodes c.open_node.new.out.nodes c.emit_statement.new.out.nodes c.close_join.new.out.nodes
    c.args.out.now.next c.open_node.new.out.next c.in_ok-at.at c.in_ok-at.ensures.at c.in_ok-at.ensures.writes.next c.in_ok-at.ensures.writes.nodes c.in_ok-emit_statement.ensures.nodes c.in_ok-close_join.ensures.nodes

pub emit_statement-returns-in_ok-emit_block-in-If-2-clause-next : goal.emit_statement-returns-in_ok-emit_block-in-If-2-clause-next
emit_statement-returns-in_ok-emit_block-in-If-2-clause-next t c =
    if_next c.args.statement.now c.in-If.cond c.in-If.place c.in-If.yes c.in-If.no c.as_slice.result.now c.as_slice-in-If.result.now
    c.args.out.now.next c.lift.new.out.next c.open_node.new.out.next c.emit_block.new.out.next c.close_split.new.out.next c.emit_block-in-If.new.out.next
    c.in-If.is c.as_slice.ensures c.as_slice-in-If.ensures c.in_ok-cond-in-If.ensures.next c.in_ok-at-in-If.ensures.writes.next c.in_ok-emit_block-in-If.ensures.next
    c.in_ok-close_split-in-If.ensures.next c.in_ok-emit_block-in-If-2.ensures.next

pub emit_statement-returns-in_ok-emit_block-in-If-2-clause-nodes : goal.emit_statement-returns-in_ok-emit_block-in-If-2-clause-nodes
emit_statement-returns-in_ok-emit_block-in-If-2-clause-nodes t c =
    if_written c.args.actions.now c.args.statement.now c.in-If.cond c.in_ok-cond-in-If.cond c.in-If.place c.in-If.yes c.in-If.no c.as_slice.result.now c.as_slice-in-If.result.now
    c.args.out.now.nodes c.lift.new.out.nodes c.open_node.new.out.nodes c.emit_block.new.out.nodes c.close_split.new.out.nodes c.emit_block-in-If.new.out.nodes
    c.args.out.now.next c.lift.new.out.next c.open_node.new.out.next c.emit_block.new.out.next c.close_split.new.out.next c.in_ok-at-in-If.at
    c.in-If.is c.as_slice.ensures c.as_slice-in-If.ensures c.in_ok-cond-in-If.ensures.next c.in_ok-at-in-If.ensures.writes.next c.in_ok-emit_block-in-If.ensures.next
    c.in_ok-close_split-in-If.ensures.next c.in_ok-cond-in-If.ensures.calls.nodes c.in_ok-cond-in-If.ensures.lifted c.in_ok-at-in-If.ensures.at c.in_ok-at-in-If.ensures.writes.nodes
    c.in_ok-emit_block-in-If.ensures.nodes c.in_ok-close_split-in-If.ensures.nodes c.in_ok-emit_block-in-If-2.ensures.nodes
