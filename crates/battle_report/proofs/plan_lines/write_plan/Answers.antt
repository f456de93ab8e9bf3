use Rattle.std.proofs.Common.{◌≡◌, ◌∙◌, ℕ, List, ap, codes, subst}
use Rattle.std.specs.List.{enumerate_from, flat_map}
use Rattle.sgl_outside.specs.Sinks.{Writes}
use Rattle.sgl_outside.proofs.Writes.{writes_cut, writes_then}
use Rattle.battle_algebra.specs.declared.plan.Node.{Node}
use Rattle.battle_report.specs.PlanLines.{node_line}
use Rattle.battle_report.proofs.plan_lines.write_plan.Goals as goal

pub returns-in-Ok : goal.returns-in-Ok
returns-in-Ok g c =
    let sink = g.S.Sink in
    let put = c.put.new.out in
    let wrote = c.write_nodes.new.out in
    let nodes = c.args.plan.now.plan.nodes in
    let lines : List Node → List ℕ = λ ns. flat_map (node_line c.args.script.now) (enumerate_from 0 ns) in
    let is : c.as_slice.result.now ≡ nodes = c.as_slice.ensures ∙ ap (λ p. p.nodes) c.plan.ensures.plan in
    writes_then _ _ _ _ _ _ (codes "# plan\n") (lines nodes) _ _ c.in-Ok.ensures
    (subst (λ ns. Writes (sink.written put) (sink.written wrote) (sink.faults put) (sink.faults wrote) c.write_nodes.result (lines ns)) is c.write_nodes.ensures)

pub returns-in-Err : goal.returns-in-Err
returns-in-Err g c =
    writes_cut _ _ _ _ (codes "# plan\n") (flat_map (node_line c.args.script.now) (enumerate_from 0 c.args.plan.now.plan.nodes)) _ _ c.in-Err.ensures
