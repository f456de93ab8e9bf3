use Rattle.std.proofs.Common.{◌≡◌, ◌∙◌, ◌<◌, ℕ, ℤ, List, length, map, ap, subst, sym, arith, rules}
use Rattle.std.proofs.lemmas.List.{length-map}
use Rattle.std.proofs.lemmas.List.Sorted.{answers_always, IsPermutation-trans}
use Rattle.std.specs.Prelude.{All}
use Rattle.std.specs.List.{range_with_len}
use Rattle.std.specs.List.Sorted.{IsPermutation}
use Rattle.rank_table.proofs.Ordering.{gathered, order-inside}
use Rattle.extreme_sweep.specs.declared.window.SweepPoint.{SweepPoint}
use Rattle.extreme_sweep.specs.Ranking.{points_of}
use Rattle.extreme_sweep.proofs.ranking.points_by_pair.Goals as goal

-- the values are as many as the points
as-many : (points : List SweepPoint) (values given : List ℤ) → given ≡ values → values ≡ map (λ (p : SweepPoint). p.entry.pair.value) points → length given ≡ length points
as-many points values given is are = ap length (is ∙ are) ∙ length-map points (λ (p : SweepPoint). p.entry.pair.value)

pub order_of-requires : goal.order_of-requires
order_of-requires c = omega (arith, c.requires, as-many c.args.points.now _ _ c.as_slice.ensures.value c.in_ok-values.ensures)

pub elements_at-requires : goal.elements_at-requires
elements_at-requires g =
    subst (All (λ (p : ℕ). p < length g.args.points.now)) (sym g.as_slice-2.ensures.value)
    (subst (λ (n : ℕ). All (λ (p : ℕ). p < n) g.in_ok-order.order.items) (as-many g.args.points.now _ _ g.as_slice.ensures.value g.in_ok-values.ensures)
    (order-inside g.as_slice.result.now g.in_ok-order.order.items g.in_ok-order.ensures))

pub returns-clause-permutation : goal.returns-clause-permutation
returns-clause-permutation c =
    let points = c.args.points.now in let order = c.in_ok-order.order.items in
    let moved = subst (λ (n : ℕ). IsPermutation (range_with_len 0 n) order) (as-many points _ _ c.as_slice.ensures.value c.in_ok-values.ensures) c.in_ok-order.ensures.places in
    let ranked : c.in_ok-ranked.ranked.items ≡ points_of points order = c.in_ok-ranked.ensures _ ∙ ap (points_of points) c.as_slice-2.ensures.value in
    IsPermutation-trans points c.in_ok-ranked.ranked.items c.sort_unstable_by_key.new.self.items
    (subst (IsPermutation points) (sym ranked) (gathered points _ order moved)) c.sort_unstable_by_key.ensures.permutation

pub returns-clause-rising : goal.returns-clause-rising
returns-clause-rising c = c.sort_unstable_by_key.ensures.sorted (λ (p : SweepPoint). p.entry.pair) (answers_always _ _ _ (λ f a r q k. search rules))
