use Rattle.std.proofs.Common.{◌∙◌, List, subst}
use Rattle.std.specs.Prelude.{IfOk, IsPermutation}
use Rattle.extreme_sweep.specs.declared.window.SweepPoint.{SweepPoint}
use Rattle.group_sweeps.proofs.laying.lay_group.Goals as goal

pub returns : goal.returns
returns g c = subst (λ (ps : List SweepPoint). IfOk c.build.result (IsPermutation ps)) (c.as_slice.ensures.value ∙ c.in_ok-points.ensures.points) c.build.ensures
