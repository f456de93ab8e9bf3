-- Numbers y in order, and the places where they stand.
use Rattle.std.proofs.Common.{◌≡◌, ◌∙◌, ℕ, ℤ, pos, ◌<◌, List, length, get_or, map, sym, ap, subst, arith}
use Rattle.std.specs.List.{All, range_with_len}
use Rattle.std.specs.List.Sorted.{IsPermutation}
use Rattle.std.proofs.lemmas.List.{ext_get_or, get_or-map, get_or_default, length-map}
use Rattle.rank_table.specs.Orders.{number_at}
use Rattle.rank_table.specs.Ranks.{IsRising}
use Rattle.rank_table.proofs.Ordering.{order-length, order-rises}
use Rattle.range_aggregate.specs.Heights.{AreHeights}
use Rattle.range_aggregate.specs.Rows.{AreInverse}
use Rattle.range_aggregate.specs.declared.heights.Heights.{Heights}

module _ (ys : List ℤ) (heights : Heights) (are : AreHeights ys heights) where
  abbrev places : List ℕ
  places = heights.places.items

  pub ys_rise : IsRising heights.ys.items
  ys_rise = subst IsRising (sym are.ys_are) (order-rises ys places are.order)

  pub as_many : length places ≡ length heights.ys.items
  as_many = sym (ap length are.ys_are ∙ length-map places (number_at ys))

  pub all_many : length places ≡ length ys
  all_many = order-length ys places are.order

  pub all_places : IsPermutation (range_with_len 0 (length places)) places
  all_places = subst (λ n. IsPermutation (range_with_len 0 n) places) (sym all_many) are.order.places

  -- each has the number of its place
  pub own : (k : ℕ) → k < length places → get_or heights.ys.items k (pos 0) ≡ number_at ys (get_or places k 0)
  own k below = ap (λ l. get_or l k (pos 0)) are.ys_are ∙ get_or-map (number_at ys) places k 0 (pos 0) below

  pub ranks_within : (ranks : List ℕ) → AreInverse ranks places → All (λ rank. rank < length heights.ys.items) ranks
  ranks_within ranks inverse k d below =
      let low : get_or ranks k 0 < length ranks = inverse.rank_within k below in
      omega (arith, low, inverse.long, as_many, get_or_default ranks k d 0 below)

  -- where the numbers in order stand at the ranks of places, they are those of the places
  pub ys_at_ranks : (ranks : List ℕ) → AreInverse ranks places → map (number_at heights.ys.items) ranks ≡ ys
  ys_at_ranks ranks inverse =
      let wide : length (map (number_at heights.ys.items) ranks) ≡ length ranks = length-map ranks (number_at heights.ys.items) in
      ext_get_or (pos 0) (map (number_at heights.ys.items) ranks) ys (wide ∙ sym inverse.long ∙ all_many)
      (λ place below.
      let inside : place < length ranks = omega (arith, below, wide) in
      let under : get_or ranks place 0 < length places = omega (arith, inverse.long, inverse.rank_within place inside) in
      get_or-map (number_at heights.ys.items) ranks place 0 (pos 0) inside
      ∙ own (get_or ranks place 0) under
      ∙ ap (number_at ys) (inverse.place_is place inside))
