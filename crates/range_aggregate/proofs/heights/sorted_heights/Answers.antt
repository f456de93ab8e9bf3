-- The numbers y at the places of their order.
use Rattle.std.proofs.Common.{◌≡◌, ◌∙◌, ◌<◌, ℕ, ℤ, pos, List, length, map, sym, ap, subst, arith}
use Rattle.std.proofs.lemmas.List.{length-map}
use Rattle.std.specs.Prelude.{All}
use Rattle.rank_table.specs.Orders.{number_at, IsOrder}
use Rattle.rank_table.proofs.Ordering.{order-inside}
use Rattle.range_aggregate.specs.declared.point.Point.{Point}
use Rattle.range_aggregate.proofs.heights.sorted_heights.Goals as goal

pub elements_at-requires : goal.elements_at-requires
elements_at-requires c =
    subst (All (λ (place : ℕ). place < length c.as_slice-2.result.now)) (sym c.as_slice-3.ensures.value)
    (subst (λ (l : List ℤ). All (λ (place : ℕ). place < length l) c.in_ok-order.order.items) (c.as_slice.ensures.value ∙ sym c.as_slice-2.ensures.value)
    (order-inside c.as_slice.result.now c.in_ok-order.order.items c.in_ok-order.ensures))

pub narrowed-requires : goal.narrowed-requires
narrowed-requires c =
    let many : length c.as_slice.result.now ≡ length c.args.points.now =
    ap length (c.as_slice.ensures.value ∙ c.in_ok-all.ensures) ∙ length-map c.args.points.now (λ (point : Point). point.y) in
    subst (All (λ (place : ℕ). place < 65536)) (sym c.as_slice-4.ensures.value)
    (λ k d below. let within = order-inside c.as_slice.result.now c.in_ok-order.order.items c.in_ok-order.ensures k d below in omega (arith, within, many, c.requires))

pub returns : goal.returns
returns c =
    let order = c.in_ok-order.order.items in
    let places : c.in_ok-places.places.items ≡ order = c.in_ok-places.ensures ∙ c.as_slice-4.ensures.value in
    let is : IsOrder (map (λ (point : Point). point.y) c.args.points.now) order =
    subst (λ (l : List ℤ). IsOrder l order) (c.as_slice.ensures.value ∙ c.in_ok-all.ensures) c.in_ok-order.ensures in
    record {
      order = subst (IsOrder (map (λ (point : Point). point.y) c.args.points.now)) (sym places) is;
      ys_are = c.in_ok-ys.ensures (pos 0) ∙ (λ i. map (number_at ((c.as_slice-2.ensures.value ∙ c.in_ok-all.ensures) i)) ((c.as_slice-3.ensures.value ∙ sym places) i));
    }
