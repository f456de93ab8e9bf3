use Rattle.std.proofs.Common.{true, ◌∙◌, ap, ◌∷◌, ◌+◌}
use Rattle.std.specs.Prelude.{slice_index_or}
use Rattle.plan_rewrite.specs.Bare.{top_if, rest_if}
use Rattle.plan_rewrite.specs.Tidy.{is_empty}
use Rattle.battle_algebra.specs.declared.plan.Node.TheVariants.{Empty}
use Rattle.plan_rewrite.proofs.Thinning.{join_first, join_second, join_none}
use Rattle.plan_rewrite.proofs.pruning.join_on.Goals as goal

pub returns-then-no_first : goal.returns-then-no_first
returns-then-no_first c =
    join_first c.args.grove.now c.leave_second.new.grove c.args.node c.in_ok-first.first c.in_ok-second.second c.in_ok-no_first.no_first c.in_ok-first.ensures.top (c.in_ok-second.ensures.top ∙ ap (top_if true) c.in_ok-first.ensures.rest)
    (c.in_ok-no_first.ensures ∙ ap (λ l. is_empty (slice_index_or l 0 Empty)) c.as_slice.ensures) c.if-no_first.true
    c.in_ok-leave_second.ensures.nodes (c.in_ok-leave_second.ensures.sizes ∙ ap (λ s. c.in_ok-second.second ∷ s) (c.in_ok-second.ensures.rest ∙ ap (rest_if true) c.in_ok-first.ensures.rest))

pub returns-then-no_second : goal.returns-then-no_second
returns-then-no_second c =
    join_second c.args.grove.now c.leave_first.new.grove c.args.node c.in_ok-first.first c.in_ok-second.second c.in_ok-no_first.no_first c.in_ok-no_second.no_second c.in_ok-first.ensures.top
    (c.in_ok-second.ensures.top ∙ ap (top_if true) c.in_ok-first.ensures.rest) (c.in_ok-no_first.ensures ∙ ap (λ l. is_empty (slice_index_or l 0 Empty)) c.as_slice.ensures) c.if-no_first.false (c.in_ok-no_second.ensures ∙ ap (λ l. is_empty (slice_index_or l c.in_ok-first.first Empty)) c.as_slice-2.ensures) c.if-no_second.true
    c.in_ok-leave_first.ensures.nodes (c.in_ok-leave_first.ensures.sizes ∙ ap (λ s. c.in_ok-first.first ∷ s) (c.in_ok-second.ensures.rest ∙ ap (rest_if true) c.in_ok-first.ensures.rest))

pub returns : goal.returns
returns c =
    join_none c.args.grove.now c.put_over.new.grove c.args.node c.in_ok-first.first c.in_ok-second.second c.in_ok-no_first.no_first c.in_ok-no_second.no_second c.in_ok-first.ensures.top
    (c.in_ok-second.ensures.top ∙ ap (top_if true) c.in_ok-first.ensures.rest) (c.in_ok-no_first.ensures ∙ ap (λ l. is_empty (slice_index_or l 0 Empty)) c.as_slice.ensures) c.if-no_first.false (c.in_ok-no_second.ensures ∙ ap (λ l. is_empty (slice_index_or l c.in_ok-first.first Empty)) c.as_slice-2.ensures) c.if-no_second.false
    c.in_ok-put_over.ensures.nodes
    (c.in_ok-put_over.ensures.sizes ∙ ap (λ s. (1 + (c.in_ok-first.first + c.in_ok-second.second)) ∷ s) (c.in_ok-second.ensures.rest ∙ ap (rest_if true) c.in_ok-first.ensures.rest))
