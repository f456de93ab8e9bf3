use Rattle.std.proofs.Common.{◌≡◌, map, take, drop}
use Rattle.sgl_types.specs.Findings.{noted}
use Rattle.sgl_types.specs.Items.{setting_of, clauses_faults}
use Rattle.sgl_types.specs.TypedItems.{typed_clause}
use Rattle.sgl_types.proofs.actions.check_clauses.Given as goal

abbrev pub invariant-loop-clause : goal.invariant-loop-clause
invariant-loop-clause l =
    (l.made ≡ map (typed_clause (setting_of l.context) l.params) (take l.clause-index l.ons))
    × (noted l.found (clauses_faults (setting_of l.context) l.params l.before (drop l.clause-index l.ons)) ≡ noted l.initial.found (clauses_faults (setting_of l.context) l.params l.initial.before l.ons))
