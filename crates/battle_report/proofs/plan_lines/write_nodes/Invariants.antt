use Rattle.std.proofs.Common.{Ok, take}
use Rattle.std.specs.List.{enumerate_from, flat_map}
use Rattle.sgl_outside.specs.Sinks.{Writes}
use Rattle.sgl_outside.specs.declared.Failed.{Failed}
use Rattle.battle_report.specs.PlanLines.{node_line}
use Rattle.battle_report.proofs.plan_lines.write_nodes.Given as goal

abbrev pub invariant-loop-number : goal.invariant-loop-number
invariant-loop-number g l =
    Writes {T = Unit {0}} {E = Failed} (g.S.Sink.written l.fn.out) (g.S.Sink.written l.out) (g.S.Sink.faults l.fn.out) (g.S.Sink.faults l.out) (Ok tt) (flat_map (node_line l.script) (take l.number (enumerate_from 0 l.nodes)))
