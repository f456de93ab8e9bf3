use Rattle.std.proofs.Common.{◌≡◌, take}
use Rattle.sgl_typed.proofs.deep_copy.copy_all.Given as goal

abbrev pub invariant-loop-part : goal.invariant-loop-part
invariant-loop-part g l = l.copies ≡ take l.part-index l.parts
