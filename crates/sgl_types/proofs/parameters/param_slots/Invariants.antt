use Rattle.std.proofs.Common.{◌≡◌, ◌++◌, drop, map}
use Rattle.sgl_types.specs.Items.{param_locals}
use Rattle.sgl_types.proofs.parameters.param_slots.Given as goal

abbrev pub invariant-loop-name : goal.invariant-loop-name
invariant-loop-name l = l.slots ++ map (λ local. local.slot) (param_locals l.slot (drop l._name-index l.params)) ≡ map (λ local. local.slot) (param_locals l.initial.slot l.params)
