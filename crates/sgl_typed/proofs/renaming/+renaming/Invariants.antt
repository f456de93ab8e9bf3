use Rattle.std.proofs.Common.{◌≡◌, map, take}
use Rattle.sgl_typed.specs.Renamed.{renamed}
use Rattle.sgl_typed.proofs.renaming.+renaming.Given as goal

abbrev pub invariant-rename_exprs-loop-expr : goal.invariant-rename_exprs-loop-expr
invariant-rename_exprs-loop-expr g l = l.copies ≡ map (renamed (g.S.OtherSlots.slot_for l.slots)) (take l.expr-index l.exprs)
