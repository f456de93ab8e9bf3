-- Points by the ranks of their numbers y.
use Rattle.std.proofs.Common.{◌≡◌, ℕ, ℤ, ◌+◌, ◌-◌, ◌<◌, ◌≤◌, ◌≤ℤ◌, ◌<ℤ◌, pos, int_le, int_lt, ◌&&◌, Bool, true, false, cond, List, [], ◌∷◌, length, get_or, map, refl, sym, ap, subst, ◌∙◌, inl, inr, arith}
use Rattle.std.specs.Prelude.{slice_range, filter, nat_le, ◌↔◌, ◌⊎◌, Option}
use Rattle.std.specs.List.{All}
use Rattle.std.proofs.lemmas.Bool.Decides.{nat_tests}
use Rattle.std.proofs.lemmas.Bool.{cases_lt}
use Rattle.std.proofs.lemmas.Int.{ints, by_lt_z}
use Rattle.std.proofs.lemmas.List.{length-map}
use Rattle.std.proofs.lemmas.List.Edits.{length-between, get_or-between}
use Rattle.std.proofs.lemmas.List.Elements.{All-filter, All-head, All-tail}
use Rattle.sgl_values.specs.Range.{is_between}
use Rattle.rank_table.specs.Ranks.{IsRising, count_below, count_through}
use Rattle.rank_table.specs.Orders.{number_at}
use Rattle.rank_table.proofs.Ranking.{bounded, lt_true, not_lt, parted_below, parted_through}
use Rattle.range_aggregate.specs.Boxes.{weight_of}
use Rattle.range_aggregate.specs.Levels.{AreWeightless, strip}
use Rattle.range_aggregate.specs.Rows.{count_rows, is_in_rows}
use Rattle.range_aggregate.specs.Indexed.{IsIndexed}
use Rattle.range_aggregate.specs.declared.build.WeightTree.{WeightTree}
use Rattle.range_aggregate.specs.declared.point.Point.{Point}
use Rattle.rank_table.proofs.Ranking.{filter_none}
use Rattle.range_aggregate.proofs.Slices.{map-slice_range}
use Rattle.range_aggregate.proofs.Spanning.{between_below}
use Rattle.range_aggregate.proofs.Strips.{columns_by_ranks}

-- ---- a test of y by rank

both_from : (y1 y : ℤ) (low rank : ℕ) → low ≤ rank → y1 ≤ℤ y → nat_le low rank ≡ int_le y1 y
both_from y1 y low rank ranks at = grind (arith, ints, nat_tests)

neither_from : (y1 y : ℤ) (low rank : ℕ) → rank < low → y <ℤ y1 → nat_le low rank ≡ int_le y1 y
neither_from y1 y low rank ranks under = grind (arith, ints, nat_tests)

both_to : (y2 y : ℤ) (last rank : ℕ) → rank ≤ last → y ≤ℤ y2 → nat_le rank last ≡ int_le y y2
both_to y2 y last rank ranks at = grind (arith, ints, nat_tests)

neither_to : (y2 y : ℤ) (last rank : ℕ) → last < rank → y2 <ℤ y → nat_le rank last ≡ int_le y y2
neither_to y2 y last rank ranks above = grind (arith, ints, nat_tests)

test_from : (y1 y : ℤ) (low rank : ℕ) → (y1 ≤ℤ y) ↔ (low ≤ rank) → nat_le low rank ≡ int_le y1 y
test_from y1 y low rank tells =
    by_lt_z y y1
    (λ under. elim (cases_lt rank low) [
      | inl lt ↦ neither_from y1 y low rank lt under
      | inr le ↦ absurd (omega (arith, ints, under, tells.1 le))
    ])
    (λ at. both_from y1 y low rank (tells.0 at) at)

test_to : (y2 y : ℤ) (high rank : ℕ) → 0 < high → (y ≤ℤ y2) ↔ (rank < high) → nat_le rank (high - 1) ≡ int_le y y2
test_to y2 y high rank some tells =
    by_lt_z y2 y
    (λ above. elim (cases_lt rank high) [
      | inl lt ↦ absurd (omega (arith, ints, above, tells.1 lt))
      | inr le ↦ neither_to y2 y (high - 1) rank (omega (arith, le, some)) above
    ])
    (λ at. both_to y2 y (high - 1) rank (omega (arith, tells.0 at)) at)

outside_above : (low high z : ℤ) → int_lt high z ≡ true → is_between low high z ≡ false
outside_above low high z above = grind (arith, ints)

outside : (y1 y2 y : ℤ) → (y <ℤ y1) ⊎ (y2 <ℤ y) → is_between y1 y2 y ≡ false
outside y1 y2 y away = elim away [
  | inl under ↦ between_below y1 y2 y (lt_true y y1 under)
  | inr above ↦ outside_above y1 y2 y (lt_true y2 y above)
]

is_less : (a b : ℤ) → int_lt a b ≡ true → a <ℤ b
is_less a b less = grind (arith, ints)

is_most : (a b : ℤ) → int_le a b ≡ true → a ≤ℤ b
is_most a b most = grind (arith, ints)

is_more : (a b : ℤ) → int_le a b ≡ false → a ≤ℤ b → ⊥
is_more a b more most = grind (arith, ints)

-- ---- all points of a part

same_longer : {A B : Type 0} (b c : Bool) (x : A) (xs : List A) (y : B) (ys : List B) → b ≡ c → length xs ≡ length ys → length (cond b (x ∷ xs) xs) ≡ length (cond c (y ∷ ys) ys)
same_longer true true x xs y ys same long = omega (arith, long)
same_longer true false x xs y ys same long = cc
same_longer false true x xs y ys same long = cc
same_longer false false x xs y ys same long = long

-- the same pass two tests that say the same of each
filter_alike : {A : Type 0} (p q : A → Bool) (xs : List A) → All (λ x. p x ≡ q x) xs → filter p xs ≡ filter q xs
filter_alike p q [] all = refl
filter_alike p q (x ∷ xs) all =
    ap (λ b. cond b (x ∷ filter p xs) (filter p xs)) (All-head (λ z. p z ≡ q z) x xs all)
    ∙ ap (λ l. cond (q x) (x ∷ l) l) (filter_alike p q xs (All-tail (λ z. p z ≡ q z) x xs all))

-- as many pass one test as values of theirs pass another
pub count_map : {A B : Type 0} (f : A → B) (p : A → Bool) (q : B → Bool) (xs : List A) → All (λ x. q (f x) ≡ p x) xs → length (filter q (map f xs)) ≡ length (filter p xs)
count_map f p q [] all = refl
count_map f p q (x ∷ xs) all =
    same_longer (q (f x)) (p x) (f x) (filter q (map f xs)) x (filter p xs) (All-head (λ z. q (f z) ≡ p z) x xs all) (count_map f p q xs (All-tail (λ z. q (f z) ≡ p z) x xs all))

-- in numbers that rise, the ranks from the first that is no less up to the last that is no more are those between two numbers
module _ (ys : List ℤ) (rising : IsRising ys) (y1 y2 : ℤ) (rank : ℕ) (within : rank < length ys) where
  abbrev y : ℤ
  y = number_at ys rank

  tells_low : (y1 ≤ℤ y) ↔ (count_below y1 ys ≤ rank)
  tells_low = (
    λ at. elim (cases_lt rank (count_below y1 ys)) [
      | inl lt ↦ absurd (omega (arith, ints, at, is_less y y1 ((parted_below y1 ys rising).0 rank (pos 0) (omega arith) lt)))
      | inr le ↦ le
    ],
    λ le. not_lt y y1 ((parted_below y1 ys rising).1 rank (pos 0) le within),
  )

  tells_high : (y ≤ℤ y2) ↔ (rank < count_through y2 ys)
  tells_high = (
    λ at. elim (cases_lt rank (count_through y2 ys)) [
      | inl lt ↦ lt
      | inr le ↦ absurd (is_more y y2 ((parted_through y2 ys rising).1 rank (pos 0) le within) at)
    ],
    λ lt. is_most y y2 ((parted_through y2 ys rising).0 rank (pos 0) (omega arith) lt),
  )

  pub between_ranks : count_below y1 ys < count_through y2 ys → is_in_rows (count_below y1 ys) (count_through y2 ys - 1) rank ≡ is_between y1 y2 y
  between_ranks some =
      let first : nat_le (count_below y1 ys) rank ≡ int_le y1 y = test_from y1 y (count_below y1 ys) rank tells_low in
      let last : nat_le rank (count_through y2 ys - 1) ≡ int_le y y2 = test_to y2 y (count_through y2 ys) rank (omega (arith, some)) tells_high in
      ap (λ b. b && nat_le rank (count_through y2 ys - 1)) first ∙ ap (λ b. int_le y1 y && b) last

  pub none_between : count_through y2 ys ≤ count_below y1 ys → is_between y1 y2 y ≡ false
  none_between none =
      by_lt_z y y1 (λ below. outside y1 y2 y (inl below))
      (λ at. by_lt_z y2 y (λ above. outside y1 y2 y (inr above))
      (λ to_at. absurd (omega (arith, none, tells_low.0 at, tells_high.0 to_at))))

-- ---- no weight

weight_of_none : (points : List Point) → AreWeightless points → weight_of points ≡ pos 0
weight_of_none [] none = refl
weight_of_none (point ∷ points) none =
    let here : point.weight ≡ pos 0 = All-head (λ (p : Point). p.weight ≡ pos 0) point points none in
    omega (arith, ints, here, weight_of_none points (All-tail (λ (p : Point). p.weight ≡ pos 0) point points none))

-- points without weight have none in a box
pub weightless : (p : Point → Bool) (points : List Point) → AreWeightless points → weight_of (filter p points) ≡ pos 0
weightless p points none = weight_of_none (filter p points) (All-filter p (λ point. point.weight ≡ pos 0) points none)

-- ---- of an index

module _ (points : List Point) (xs ys : List ℤ) (ranks : List ℕ) (weights : Option WeightTree) (held : IsIndexed points xs ys ranks weights) where
  pub as_many : length ranks ≡ length points
  as_many = sym (length-map ranks (number_at ys)) ∙ ap length held.ranks_are ∙ length-map points (λ (point : Point). point.y)

  pub rank_bound : (y : ℤ) → count_through y ys ≤ length points
  rank_bound y = omega (arith, held.ys_many, bounded (λ z. int_le z y) ys)

  -- what holds of each rank of a part
  each_rank : (P : ℕ → Type 0) → ((rank : ℕ) → rank < length ys → P rank) → (from to : ℕ) → to ≤ length points → All P (slice_range ranks from to)
  each_rank P each from to bound k d below =
      let ends : to ≤ length ranks = omega (arith, bound, as_many) in
      let inside : from + k < to = omega (arith, length-between ranks from to ends, below) in
      subst P (sym (get_or-between ranks from to k d inside)) (each (get_or ranks (from + k) d) (held.within (from + k) d (omega (arith, inside, ends))))

  -- as many points of a part lie in a strip as their numbers y tell at their ranks
  strip_by_ranks : (from to : ℕ) (y1 y2 : ℤ) → length (filter (λ rank. is_between y1 y2 (number_at ys rank)) (slice_range ranks from to)) ≡ length (strip y1 y2 (slice_range points from to))
  strip_by_ranks from to y1 y2 =
      sym (count_map (number_at ys) (λ rank. is_between y1 y2 (number_at ys rank)) (is_between y1 y2) (slice_range ranks from to) (λ k d below. refl))
      ∙ ap (λ l. length (filter (is_between y1 y2) l)) (map-slice_range (number_at ys) ranks from to ∙ ap (λ l. slice_range l from to) held.ranks_are ∙ sym (map-slice_range (λ (point : Point). point.y) points from to))
      ∙ count_map (λ (point : Point). point.y) (λ (point : Point). is_between y1 y2 point.y) (is_between y1 y2) (slice_range points from to) (λ k d below. refl)

  module _ (from to : ℕ) (bound : to ≤ length points) (y1 y2 : ℤ) (low high : ℕ) (low_is : low ≡ count_below y1 ys) (high_is : high ≡ count_through y2 ys) where
    pub strip_count : low < high → count_rows low (high - 1) (slice_range ranks from to) ≡ length (strip y1 y2 (slice_range points from to))
    strip_count some =
        let some_ranks : count_below y1 ys < count_through y2 ys = omega (arith, some, low_is, high_is) in
        ap (λ n. count_rows n (high - 1) (slice_range ranks from to)) low_is
        ∙ ap (λ n. count_rows (count_below y1 ys) (n - 1) (slice_range ranks from to)) high_is
        ∙ ap length (filter_alike (is_in_rows (count_below y1 ys) (count_through y2 ys - 1)) (λ rank. is_between y1 y2 (number_at ys rank)) (slice_range ranks from to)
        (each_rank (λ rank. is_in_rows (count_below y1 ys) (count_through y2 ys - 1) rank ≡ is_between y1 y2 (number_at ys rank))
        (λ rank within. between_ranks ys held.ys_rising y1 y2 rank within some_ranks) from to bound))
        ∙ strip_by_ranks from to y1 y2

    pub strip_none : high ≤ low → length (strip y1 y2 (slice_range points from to)) ≡ 0
    strip_none none =
        sym (strip_by_ranks from to y1 y2)
        ∙ ap length (filter_none (λ rank. is_between y1 y2 (number_at ys rank)) (slice_range ranks from to)
        (each_rank (λ rank. is_between y1 y2 (number_at ys rank) ≡ false)
        (λ rank within. none_between ys held.ys_rising y1 y2 rank within (omega (arith, none, low_is, high_is))) from to bound))

  -- the columns of a box, by their ranks
  pub columns_count : (x1 x2 : ℤ) (from to : ℕ) → from ≡ count_below x1 xs → to ≡ count_through x2 xs
      → filter (λ point. is_between x1 x2 point.x) points ≡ slice_range points from to
  columns_count x1 x2 from to from_is to_is =
      columns_by_ranks points x1 x2 (subst IsRising held.xs_are held.rising)
      ∙ ap (λ n. slice_range points n (count_through x2 (map (λ point. point.x) points))) (ap (count_below x1) (sym held.xs_are) ∙ sym from_is)
      ∙ ap (slice_range points from) (ap (count_through x2) (sym held.xs_are) ∙ sym to_is)

  pub columns_bound : (x2 : ℤ) (to : ℕ) → to ≡ count_through x2 xs → to ≤ length points
  columns_bound x2 to to_is = omega (arith, to_is, bounded (λ z. int_le z x2) xs, ap length held.xs_are, length-map points (λ (point : Point). point.x))
