use Rattle.std.proofs.Common.{◌≡◌, take}
use Rattle.sgl_types.specs.Declarations.{declared}
use Rattle.sgl_types.proofs.declared.Declared.of.Given as goal

abbrev pub invariant-loop-item : goal.invariant-loop-item
invariant-loop-item l = l.all ≡ declared (take l.item-index l.items)
