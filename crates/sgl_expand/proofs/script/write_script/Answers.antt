use Rattle.std.proofs.Common.{[], ◌∙◌}
use Rattle.sgl_typed.specs.WellFormed.{is_well_formed}
use Rattle.sgl_expand.proofs.WellFormed.{written-well-formed}
use Rattle.sgl_expand.proofs.script.write_script.Goals as goal

pub assemble-requires : goal.assemble-requires
assemble-requires c =
    (λ i. is_well_formed (c.in_ok-schema.ensures i) (c.in_ok-aggs.ensures i) (c.in_ok-actions.ensures i) []
    (c.in_ok-main.ensures.main i) (c.in_ok-main.ensures.slots i) (c.in_ok-rules.ensures i) (c.in_ok-spawn.ensures i) (c.in_ok-removal.ensures i))
    ∙ written-well-formed c.args.script.now
