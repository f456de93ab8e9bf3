-- The numbers at the places of their order.
use Rattle.std.proofs.Common.{◌≡◌, ◌∙◌, ◌<◌, ℕ, ℤ, pos, length, map, ap, sym, subst}
use Rattle.std.proofs.lemmas.Result.{IfOk-weaker}
use Rattle.std.specs.Prelude.{All, slice_index_or}
use Rattle.std.specs.List.Sorted.{IsPermutation}
use Rattle.rank_table.specs.Orders.{number_at}
use Rattle.rank_table.specs.Ranks.{IsRising}
use Rattle.rank_table.proofs.Ordering.{gathered, order-inside, order-rises}
use Rattle.row_groups.proofs.across.in_order.Goals as goal

pub elements_at-requires : goal.elements_at-requires
elements_at-requires c =
    subst (All (λ (place : ℕ). place < length c.args.values.now)) (sym c.as_slice.ensures.value)
    (order-inside c.args.values.now c.in_ok-order.order.items c.in_ok-order.ensures)

pub returns-clause-permutation : goal.returns-clause-permutation
returns-clause-permutation c =
    let zs = c.args.values.now in let order = c.in_ok-order.order.items in
    IfOk-weaker c.elements_at.result (λ v. (none : ℤ) → v.items ≡ map (λ place. slice_index_or zs place none) c.as_slice.result.now) (λ v. IsPermutation zs v.items)
    (λ v are. subst (IsPermutation zs) (sym (are (pos 0) ∙ ap (map (number_at zs)) c.as_slice.ensures.value)) (gathered zs (pos 0) order c.in_ok-order.ensures.places)) c.elements_at.ensures

pub returns-clause-rising : goal.returns-clause-rising
returns-clause-rising c =
    let zs = c.args.values.now in let order = c.in_ok-order.order.items in
    IfOk-weaker c.elements_at.result (λ v. (none : ℤ) → v.items ≡ map (λ place. slice_index_or zs place none) c.as_slice.result.now) (λ v. IsRising v.items)
    (λ v are. subst IsRising (sym (are (pos 0) ∙ ap (map (number_at zs)) c.as_slice.ensures.value)) (order-rises zs order c.in_ok-order.ensures)) c.elements_at.ensures
