use Rattle.std.proofs.Common.{true, ◌∙◌, ap, ◌∷◌}
use Rattle.plan_rewrite.specs.Bare.{top_if, rest_if}
use Rattle.plan_rewrite.proofs.Thinning.{choose_first, choose_second}
use Rattle.plan_rewrite.proofs.pruning.choose_on.Goals as goal

pub returns-then-truth : goal.returns-then-truth
returns-then-truth c =
    choose_first c.args.grove.now c.leave_first.new.grove c.in_ok-first.first c.in_ok-second.second c.args.truth c.in_ok-first.ensures.top (c.in_ok-second.ensures.top ∙ ap (top_if true) c.in_ok-first.ensures.rest) c.if-truth.true
    c.in_ok-leave_first.ensures.nodes (c.in_ok-leave_first.ensures.sizes ∙ ap (λ s. c.in_ok-first.first ∷ s) (c.in_ok-second.ensures.rest ∙ ap (rest_if true) c.in_ok-first.ensures.rest))

pub returns : goal.returns
returns c =
    choose_second c.args.grove.now c.leave_second.new.grove c.in_ok-first.first c.in_ok-second.second c.args.truth c.in_ok-first.ensures.top (c.in_ok-second.ensures.top ∙ ap (top_if true) c.in_ok-first.ensures.rest) c.if-truth.false
    c.in_ok-leave_second.ensures.nodes (c.in_ok-leave_second.ensures.sizes ∙ ap (λ s. c.in_ok-second.second ∷ s) (c.in_ok-second.ensures.rest ∙ ap (rest_if true) c.in_ok-first.ensures.rest))
