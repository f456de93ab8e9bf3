use Rattle.std.proofs.Common.{ap, ◌∙◌}
use Rattle.sgl_typed.specs.Aggregate.{value}
use Rattle.sgl_plain.specs.Acting.{acting_context}
use Rattle.sgl_plain.proofs.statements.value_for.Goals as goal

pub returns : goal.returns
returns c =
    c.evaluate.ensures
    ∙ ap (λ seen. value seen c.args.expr.now) c.with_slots-frame.ensures.context
    ∙ ap (λ slots. value (acting_context c.args.acting.now slots) c.args.expr.now) c.as_slice.ensures.value
