use Rattle.std.proofs.Common.{drop}
use Rattle.std.specs.List.{flat_map}
use Rattle.sgl_typed.specs.Items.{clause_items}
use Rattle.sgl_evaluate.specs.Frame.{context_of}
use Rattle.sgl_plain.specs.Leads.{Leads}
use Rattle.sgl_plain.proofs.action.act_with.Given as goal

abbrev pub invariant-loop-clause : goal.invariant-loop-clause
invariant-loop-clause l =
    Leads l.initial.out l.out (flat_map (clause_items (context_of l.frame)) (drop l.clause-index l.clause-items)) (flat_map (clause_items (context_of l.frame)) l.clause-items)
