use Rattle.std.proofs.Common.{drop, map}
use Rattle.sgl_typed.specs.Items.{rows_items}
use Rattle.sgl_evaluate.specs.Frame.{context_of}
use Rattle.sgl_evaluate.specs.Rights.{right_of}
use Rattle.sgl_plain.specs.Leads.{Leads}
use Rattle.sgl_plain.proofs.action.act_on_rows.Given as goal

abbrev pub invariant-loop-row : goal.invariant-loop-row
invariant-loop-row l =
    let given = rows_items (context_of l.frame) l.clause (map (right_of (context_of l.frame)) l.clause.tests) in
    Leads l.initial.out l.out (given l.row (drop l.row l.frame.tick.world.now.world.rows)) (given 0 l.frame.tick.world.now.world.rows)
