-- What a level tells of the weight of its blocks, and how the weight of a strip is put together from the blocks of all levels.
use Rattle.std.proofs.Common.{◌≡◌, ℕ, ℤ, ◌+◌, ◌*◌, ◌/◌, ◌^◌, ◌<◌, ◌≤◌, ◌+ℤ◌, List, [], ◌++◌, length, get_or, map, sym, ap, subst, ◌∙◌, inl, inr, arith}
use Rattle.std.specs.Prelude.{slice_range}
use Rattle.std.specs.List.Sorted.{IsPermutation}
use Rattle.std.proofs.Math.Nat.{mul-le-mul_right, pow-le-pow_right}
use Rattle.std.proofs.lemmas.Bool.{cases_lt}
use Rattle.std.proofs.lemmas.Grind.{pow_more}
use Rattle.std.proofs.lemmas.Int.{ints}
use Rattle.std.proofs.lemmas.List.{length-map}
use Rattle.std.proofs.lemmas.List.Elements.{filter-append}
use Rattle.std.specs.Int.{div_ceil}
use Rattle.sgl_values.specs.Range.{is_between}
use Rattle.range_aggregate.specs.Boxes.{weight_of}
use Rattle.rank_table.specs.Ranks.{IsRising}
use Rattle.range_aggregate.specs.Blocks.{blocks}
use Rattle.range_aggregate.specs.Levels.{AreLevels, IsLevel, HasBlock, Keeps, strip}
use Rattle.range_aggregate.specs.declared.level.Level.{Level}
use Rattle.range_aggregate.specs.declared.point.Point.{Point}
use Rattle.range_aggregate.proofs.Blocks.{double, none_left}
use Rattle.range_aggregate.proofs.Slices.{slice_range_join, slice_range_none, map-slice_range}
use Rattle.range_aggregate.proofs.Weights.{weight_of-append, weight_of-filter-IsPermutation}

pub level_at : (points : List Point) (levels : List Level) (k : ℕ) (level : Level) → AreLevels points levels → k < length levels → level ≡ get_or levels k level → IsLevel (2 ^ k) points level
level_at points levels k level all below here = subst (IsLevel (2 ^ k) points) (sym here) (all.each k level below)

-- behind the last level no block is left
pub used_up : (points : List Point) (levels : List Level) (k from to : ℕ) → AreLevels points levels → length levels ≤ k → to * 2 ^ k ≤ length points → to ≤ from
used_up points levels k from to all last within =
    let large : 2 ^ length levels ≤ 2 ^ k = pow-le-pow_right {n = 2} (omega arith) last in
    none_left (length points) (2 ^ k) from to (omega (arith, large, all.enough)) within

module _ (size : ℕ) (points : List Point) (level : Level) (lies : IsLevel size points level) where
  -- a block of the points is one of the level
  pub HasBlock-at : (n : ℕ) → (n + 1) * size ≤ length points → HasBlock (n * level.size) level
  HasBlock-at n fits =
      let y = λ (point : Point). point.y in
      let long : length level.ys.items ≡ length points = ap length lies.kept.ys ∙ length-map lies.order y ∙ lies.same.long in
      let start : n * level.size ≡ n * size = ap (λ s. n * s) lies.kept.size_is in
      let stop : n * level.size + level.size ≡ (n + 1) * size = omega (arith, start, lies.kept.size_is) in
      let rises : IsRising (map y (blocks size lies.order n (n + 1))) = lies.rising n (subst (λ l. (n + 1) * size ≤ l) (sym lies.same.long) fits) in
      let part : slice_range level.ys.items (n * level.size) (n * level.size + level.size) ≡ map y (blocks size lies.order n (n + 1)) =
      ap (λ a. slice_range level.ys.items a (n * level.size + level.size)) start ∙ ap (slice_range level.ys.items (n * size)) stop
      ∙ ap (λ l. slice_range l (n * size) ((n + 1) * size)) lies.kept.ys ∙ sym (map-slice_range y lies.order (n * size) ((n + 1) * size)) in
      record {
        within = omega (arith, stop, fits, long);
        full = omega (arith, lies.kept.sums.long, long, lies.same.long);
        rising = subst IsRising (sym part) rises;
      }

  module _ (y1 y2 : ℤ) (from to : ℕ) (sum : ℤ) where
    order_told : ((others : List Point) → Keeps level.size others level → sum ≡ weight_of (strip y1 y2 (blocks level.size others from to))) → sum ≡ weight_of (strip y1 y2 (blocks size lies.order from to))
    order_told told =
        subst (λ s. sum ≡ weight_of (strip y1 y2 (blocks s lies.order from to))) lies.kept.size_is
        (told lies.order (subst (λ s. Keeps s lies.order level) (sym lies.kept.size_is) lies.kept))

    -- what a level tells of a block is true of the points of the block
    pub weight_at : from ≤ to → to ≤ from + 1 → to * size ≤ length points
        → ((others : List Point) → Keeps level.size others level → sum ≡ weight_of (strip y1 y2 (blocks level.size others from to)))
        → sum ≡ weight_of (strip y1 y2 (blocks size points from to))
    weight_at forward single fits told = elim (cases_lt from to) [
      | inl lt ↦
          let one : from + 1 ≡ to = omega (arith, single, lt) in
          let same : IsPermutation (blocks size points from to) (blocks size lies.order from to) =
          subst (λ n. IsPermutation (blocks size points from n) (blocks size lies.order from n)) one (lies.same.each from (subst (λ n. n * size ≤ length points) (sym one) fits)) in
          order_told told
          ∙ sym (weight_of-filter-IsPermutation (λ point. is_between y1 y2 point.y) (blocks size points from to) (blocks size lies.order from to) same)
      | inr le ↦
          let none = mul-le-mul_right size le in
          let both : strip y1 y2 (blocks size lies.order from to) ≡ strip y1 y2 (blocks size points from to) =
          ap (strip y1 y2) (slice_range_none lies.order (from * size) (to * size) none ∙ sym (slice_range_none points (from * size) (to * size) none)) in
          order_told told ∙ ap weight_of both
    ]

-- ---- a strip, put together

module _ (points : List Point) (y1 y2 : ℤ) where
  abbrev part : ℕ → ℕ → List Point
  part a b = strip y1 y2 (slice_range points a b)

  part_join : (a b c : ℕ) → a ≤ b → b ≤ c → part a c ≡ part a b ++ part b c
  part_join a b c first second =
      ap (strip y1 y2) (slice_range_join points a b c first second) ∙ filter-append (λ point. is_between y1 y2 point.y) (slice_range points a b) (slice_range points b c)

  weight_join : (a b c : ℕ) → a ≤ b → b ≤ c → weight_of (part a c) ≡ weight_of (part a b) +ℤ weight_of (part b c)
  weight_join a b c first second = ap weight_of (part_join a b c first second) ∙ weight_of-append (part a b) (part b c)

  -- nothing is left where the last block is not behind the first
  pub part_none : (size from to : ℕ) → to ≤ from → part (from * size) (to * size) ≡ []
  part_none size from to none = ap (strip y1 y2) (slice_range_none points (from * size) (to * size) (mul-le-mul_right size none))

  -- two weights, and that of the pairs of blocks between them, are the weight of the blocks
  pub weights_join : (k from to first last : ℕ) (before behind : ℤ) → from ≤ 2 * first → first ≤ last → 2 * last ≤ to
      → before ≡ weight_of (strip y1 y2 (blocks (2 ^ k) points from (2 * first))) → behind ≡ weight_of (strip y1 y2 (blocks (2 ^ k) points (2 * last) to))
      → ((before +ℤ behind) +ℤ weight_of (strip y1 y2 (blocks (2 ^ (k + 1)) points first last))) ≡ weight_of (strip y1 y2 (blocks (2 ^ k) points from to))
  weights_join k from to first last before behind low forward high told_before told_behind =
      let size : ℕ = 2 ^ k in
      let pair : (n : ℕ) → n * 2 ^ (k + 1) ≡ 2 * n * size = λ n. ap (λ s. n * s) (pow_more 2 k) ∙ double n size in
      let mid : blocks (2 ^ (k + 1)) points first last ≡ blocks size points (2 * first) (2 * last) =
      ap (λ a. slice_range points a (last * 2 ^ (k + 1))) (pair first) ∙ ap (slice_range points (2 * first * size)) (pair last) in
      let one : from * size ≤ 2 * first * size = mul-le-mul_right size low in
      let two : 2 * first * size ≤ 2 * last * size = mul-le-mul_right size (omega (arith, forward)) in
      let three : 2 * last * size ≤ to * size = mul-le-mul_right size high in
      let weights = weight_join (from * size) (2 * first * size) (to * size) one (omega (arith, two, three)) in
      let more_weights = weight_join (2 * first * size) (2 * last * size) (to * size) two three in
      omega (arith, ints, weights, more_weights, told_before, told_behind, ap (λ l. weight_of (strip y1 y2 l)) mid)

-- what a level tells of the blocks before the first pair and behind the last
module _ (points : List Point) (levels : List Level) (all : AreLevels points levels) (k : ℕ) (level : Level) (below : k < length levels) (here : level ≡ get_or levels k level) where
  pub weights_of_ends : (y1 y2 : ℤ) (from to first last : ℕ) (before behind : ℤ) → from < to → to * 2 ^ k ≤ length points → first ≡ div_ceil from 2 → last ≡ to / 2
      → ((others : List Point) → Keeps level.size others level → before ≡ weight_of (strip y1 y2 (blocks level.size others from (2 * first))))
      → ((others : List Point) → Keeps level.size others level → behind ≡ weight_of (strip y1 y2 (blocks level.size others (2 * last) to)))
      → ((before +ℤ behind) +ℤ weight_of (strip y1 y2 (blocks (2 ^ (k + 1)) points first last))) ≡ weight_of (strip y1 y2 (blocks (2 ^ k) points from to))
  weights_of_ends y1 y2 from to first last before behind some within ceil floor told_before told_behind =
      let lies = level_at points levels k level all below here in
      let low : from ≤ 2 * first = omega (arith, ceil) in
      let single : 2 * first ≤ from + 1 = omega (arith, ceil) in
      let forward : first ≤ last = omega (arith, ceil, floor, some) in
      let high : 2 * last ≤ to = omega (arith, floor) in
      let end : to ≤ 2 * last + 1 = omega (arith, floor) in
      let pairs : 2 * first * 2 ^ k ≤ to * 2 ^ k = mul-le-mul_right (2 ^ k) (omega (arith, forward, high)) in
      weights_join points y1 y2 k from to first last before behind low forward high
      (weight_at (2 ^ k) points level lies y1 y2 from (2 * first) before low single (omega (arith, pairs, within)) told_before)
      (weight_at (2 ^ k) points level lies y1 y2 (2 * last) to behind high end within told_behind)
