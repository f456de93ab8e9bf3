use Rattle.std.proofs.Common.{Ok, arith}
use Rattle.sgl_outside.proofs.Writes.{writes_nothing}
use Rattle.battle_report.specs.PlanLines.{node_line}
use Rattle.battle_report.proofs.PlanTexts.{part_numbered, writes_all, writes_numbered}
use Rattle.battle_report.proofs.plan_lines.write_nodes.Goals as goal

pub loop-number-init : goal.loop-number-init
loop-number-init g c = writes_nothing _ _ tt

pub returns : goal.returns
returns g c = writes_all (node_line c.args.script.now) c.args.nodes.now _ _ _ _ c.loop-number.number (Ok tt) (omega arith) c.loop-number.invariant

pub returns-in-Err : goal.returns-in-Err
returns-in-Err g c =
    part_numbered (node_line c.args.script.now) c.args.nodes.now _ _ _ _ _ _ c.loop-number.number _ (omega arith) c.index-nodes-number.is tt _ _ c.loop-number.invariant c.in-Err.ensures

pub loop-number-preserved : goal.loop-number-preserved
loop-number-preserved g c =
    writes_numbered (node_line c.args.script.now) c.args.nodes.now _ _ _ _ _ _ c.loop-number.number _ (omega arith) c.index-nodes-number.is tt _ c.loop-number.invariant c.in-Ok.ensures
