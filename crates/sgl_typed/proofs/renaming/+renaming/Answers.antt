use Rattle.std.proofs.Common.{◌∙◌, ap, sym}
use Rattle.sgl_typed.specs.declared.script.TExpr.TheVariants.{Binary}
use Rattle.sgl_typed.specs.Renamed.{renamed}
use Rattle.sgl_typed.proofs.Renamed.{renamed-Binary}
use Rattle.sgl_typed.proofs.renaming.+renaming.Goals as goal

pub rename_expr-returns-in_ok-right-in-Binary : goal.rename_expr-returns-in_ok-right-in-Binary
rename_expr-returns-in_ok-right-in-Binary g t c =
    let to = g.S.OtherSlots.slot_for c.args.slots.now in
    (λ i. Binary c.in-Binary.op (c.in_ok-left-in-Binary.ensures i) (c.in_ok-right-in-Binary.ensures i) c.in-Binary.place)
    ∙ sym (ap (renamed to) c.in-Binary.is ∙ renamed-Binary to c.in-Binary.op c.in-Binary.left c.in-Binary.right c.in-Binary.place)
