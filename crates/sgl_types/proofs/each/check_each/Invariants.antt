use Rattle.std.proofs.Common.{◌≡◌, map, flat_map, take, drop}
use Rattle.sgl_types.specs.Findings.{noted}
use Rattle.sgl_types.specs.Scope.{scope_at}
use Rattle.sgl_types.proofs.each.check_each.Given as goal

abbrev pub invariant-loop-part : goal.invariant-loop-part
invariant-loop-part g l =
    (l.made ≡ map (g.T.Check.typed (scope_at l.at)) (take l.part-index l.parts))
    × (noted l.found (flat_map (g.T.Check.faults (scope_at l.at)) (drop l.part-index l.parts)) ≡ noted l.initial.found (flat_map (g.T.Check.faults (scope_at l.at)) l.parts))
