use Rattle.std.proofs.Common.{ap, ◌∙◌}
use Rattle.sgl_plain.proofs.Within.{first_within}
use Rattle.sgl_plain.proofs.plain.plain_items.Goals as goal

pub returns-clause-within : goal.returns-clause-within
returns-clause-within c =
    first_within c.args.script.now c.args.world.now.world c.args.seed c.args.limit c.into_items.result
    (c.into_items.ensures ∙ ap (λ out. out.items) c.in_ok-collected.ensures)
