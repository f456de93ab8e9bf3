use Rattle.std.proofs.Common.{subst, ◌∙◌, ap, ◌∷◌}
use Rattle.plan_rewrite.specs.Descents.{FallsInto}
use Rattle.plan_rewrite.proofs.Thinning.{lower_down}
use Rattle.plan_rewrite.proofs.pruning.lower_on.Goals as goal

pub returns-in_ok-push-in-Some : goal.returns-in_ok-push-in-Some
returns-in_ok-push-in-Some c =
    lower_down c.args.grove.now _ c.args.node c.args.slot c.in_ok-size.size c.in_ok-number_behind-in-Some.field-0 c.in-Some.place c.in_ok-place_into.field-0 c.in_ok-size.ensures.top
    (subst (λ l. FallsInto l c.in_ok-size.size c.args.slot c.in_ok-place_into.field-0) c.as_slice.ensures c.in_ok-place_into.ensures) c.in-Some.is
    c.in_ok-sink-in-Some.ensures c.in_ok-number_behind-in-Some.ensures (c.in_ok-push-in-Some.ensures ∙ ap (λ s. c.in_ok-number_behind-in-Some.field-0 ∷ s) c.in_ok-size.ensures.rest)
