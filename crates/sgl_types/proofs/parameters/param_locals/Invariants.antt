use Rattle.std.proofs.Common.{◌≡◌, ◌++◌, drop}
use Rattle.sgl_types.specs.Items.{param_locals}
use Rattle.sgl_types.proofs.parameters.param_locals.Given as goal

abbrev pub invariant-loop-name : goal.invariant-loop-name
invariant-loop-name l = l.locals ++ param_locals l.slot (drop l.name-index l.params) ≡ param_locals l.initial.slot l.params
