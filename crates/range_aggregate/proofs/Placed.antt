-- Points at the places of an order.
use Rattle.std.proofs.Common.{◌≡◌, ◌<◌, ℕ, suc, ℤ, pos, List, [], ◌∷◌, length, map, refl, sym, subst, arith}
use Rattle.std.proofs.lemmas.List.{get_or-map, length-map}
use Rattle.std.specs.List.{All, range_with_len}
use Rattle.std.specs.List.Sorted.{IsPermutation}
use Rattle.rank_table.specs.Orders.{number_at, IsOrder}
use Rattle.rank_table.specs.Ranks.{IsRising}
use Rattle.rank_table.proofs.Ordering.{gathered, order-inside, order-rises}
use Rattle.range_aggregate.specs.Heights.{point_at}
use Rattle.range_aggregate.specs.declared.point.Point.{Point}

module _ (points : List Point) where
  abbrev xs : List ℤ
  xs = map (λ point. point.x) points

  xs_at : (places : List ℕ) → All (λ place. place < length points) places → map (λ point. point.x) (map (point_at points) places) ≡ map (number_at xs) places
  xs_at [] all = refl
  xs_at (place ∷ places) all =
      let own : number_at xs place ≡ (point_at points place).x = get_or-map (λ (point : Point). point.x) points place _ (pos 0) (all 0 0 (omega arith)) in
      (λ i. sym own i ∷ xs_at places (λ k d below. all (suc k) d (omega (arith, below))) i)

  pub points_placed : (order : List ℕ) → IsOrder xs order → IsPermutation points (map (point_at points) order)
  points_placed order is = gathered points _ order (subst (λ n. IsPermutation (range_with_len 0 n) order) (length-map points (λ (point : Point). point.x)) is.places)

  pub points_rise : (order : List ℕ) → IsOrder xs order → IsRising (map (λ point. point.x) (map (point_at points) order))
  points_rise order is =
      let inside = subst (λ n. All (λ place. place < n) order) (length-map points (λ (point : Point). point.x)) (order-inside xs order is) in
      subst IsRising (sym (xs_at order inside)) (order-rises xs order is)
