use Rattle.std.proofs.Common.{◌≡◌, drop}
use Rattle.sgl_plain.specs.Restored.{restored}
use Rattle.sgl_plain.proofs.slots.undo.Given as goal

abbrev pub invariant-loop-at : goal.invariant-loop-at
invariant-loop-at l = l.values.items ≡ restored (drop l.at l.log) l.initial.values.items
