-- What lies between two numbers, among elements by a rising number: in a block, and in a box.
use Rattle.std.proofs.Common.{◌≡◌, ℕ, ℤ, ◌+◌, ◌≤◌, int_lt, int_le, true, false, List, [], length, get_or, map, sym, subst, ap, ◌∙◌, inl, inr, arith}
use Rattle.std.specs.Prelude.{slice_range, filter}
use Rattle.std.specs.List.{AllWithin}
use Rattle.std.proofs.lemmas.Int.{ints}
use Rattle.std.proofs.lemmas.Bool.{cases_lt}
use Rattle.std.proofs.lemmas.List.{length-map, get_or-map}
use Rattle.std.proofs.lemmas.List.Edits.{length-between}
use Rattle.sgl_values.specs.Range.{is_between}
use Rattle.rank_table.specs.declared.span.Span.{Span}
use Rattle.rank_table.specs.Ranks.{IsRising, count_below, count_through}
use Rattle.rank_table.proofs.Ranking.{bounded, parted_below, parted_through}
use Rattle.range_aggregate.specs.Boxes.{is_in}
use Rattle.range_aggregate.specs.Spans.{IsSpan}
use Rattle.range_aggregate.specs.Levels.{strip}
use Rattle.range_aggregate.specs.declared.point.Point.{Point}
use Rattle.rank_table.proofs.Ranking.{filter_none}
use Rattle.range_aggregate.proofs.Slices.{filter_part, filter_both, slice_range_none, slice_range-slice_range}
use Rattle.range_aggregate.proofs.Spanning.{AllWithin-from_map, between_above, between_below, between_inside}

-- what lies between two numbers stands at the places of the span
pub filter-span : {A : Type 0} (key : A → ℤ) (xs : List A) (low high : ℤ) (span : Span) → IsSpan (map key xs) low high span
    → filter (λ x. is_between low high (key x)) xs ≡ slice_range xs span.from span.to
filter-span key xs low high span at =
    let long : length (map key xs) ≡ length xs = length-map xs key in
    let ends : span.to ≤ length xs = omega (arith, at.bound, long) in
    let behind : AllWithin (λ z. is_between low high z ≡ false) (map key xs) span.to (length xs) =
    subst (λ n. AllWithin (λ z. is_between low high z ≡ false) (map key xs) span.to n) long at.behind in
    filter_part (λ x. is_between low high (key x)) xs span.from span.to at.ordered ends
    (AllWithin-from_map key (λ z. is_between low high z ≡ false) xs 0 span.from (omega (arith, at.ordered, ends)) at.before)
    (AllWithin-from_map key (λ z. is_between low high z ≡ true) xs span.from span.to ends at.within)
    (AllWithin-from_map key (λ z. is_between low high z ≡ false) xs span.to (length xs) (omega arith) behind)

-- a strip of a block
pub strip-span : (points : List Point) (start stop : ℕ) → start ≤ stop → stop ≤ length points → (y1 y2 : ℤ) (span : Span)
    → IsSpan (map (λ point. point.y) (slice_range points start stop)) y1 y2 span
    → strip y1 y2 (slice_range points start stop) ≡ slice_range points (start + span.from) (start + span.to)
strip-span points start stop forward bound y1 y2 span at =
    let y = λ (point : Point). point.y in
    let part = slice_range points start stop in
    let ends : start + span.to ≤ stop = omega (arith, forward, at.bound, length-map part y, length-between points start stop bound) in
    filter-span y part y1 y2 span at ∙ slice_range-slice_range points start stop span.from span.to at.ordered ends

-- a box is a strip of what stands in its columns
pub box_strip : (points : List Point) (x1 x2 y1 y2 : ℤ) (from to : ℕ) → filter (λ point. is_between x1 x2 point.x) points ≡ slice_range points from to
    → filter (is_in x1 x2 y1 y2) points ≡ strip y1 y2 (slice_range points from to)
box_strip points x1 x2 y1 y2 from to columns =
    filter_both (λ point. is_between x1 x2 point.x) (λ point. is_between y1 y2 point.y) points ∙ ap (strip y1 y2) columns

between_none : (low high z : ℤ) → int_lt high low ≡ true → is_between low high z ≡ false
between_none low high z empty = grind (arith, ints)

-- nothing lies in an empty strip
pub empty_strip : (points : List Point) (y1 y2 : ℤ) → int_lt y2 y1 ≡ true → strip y1 y2 points ≡ []
empty_strip points y1 y2 empty = filter_none (λ point. is_between y1 y2 point.y) points (λ k d below. between_none y1 y2 (get_or points k d).y empty)

-- ---- the columns of a box, by ranks

-- what lies between two numbers stands from the one rank to the other
pub columns_by_ranks : (points : List Point) (x1 x2 : ℤ) → IsRising (map (λ point. point.x) points)
    → filter (λ point. is_between x1 x2 point.x) points ≡ slice_range points (count_below x1 (map (λ point. point.x) points)) (count_through x2 (map (λ point. point.x) points))
columns_by_ranks points x1 x2 rise =
    let x = λ (point : Point). point.x in
    let xs = map x points in
    let between = λ (point : Point). is_between x1 x2 point.x in
    let from : ℕ = count_below x1 xs in
    let to : ℕ = count_through x2 xs in
    let long : length xs ≡ length points = length-map points x in
    let from_in : from ≤ length points = omega (arith, bounded (λ z. int_lt z x1) xs, long) in
    let to_in : to ≤ length points = omega (arith, bounded (λ z. int_le z x2) xs, long) in
    let first = parted_below x1 xs rise in
    let last = parted_through x2 xs rise in
    let before : AllWithin (λ point. between point ≡ false) points 0 from =
    λ k d low high. between_below x1 x2 (x (get_or points k d))
    (subst (λ z. int_lt z x1 ≡ true) (get_or-map x points k d (x d) (omega (arith, high, from_in))) (first.0 k (x d) low high)) in
    let behind : AllWithin (λ point. between point ≡ false) points to (length points) =
    λ k d low high. between_above x1 x2 (x (get_or points k d))
    (subst (λ z. int_le z x2 ≡ false) (get_or-map x points k d (x d) high) (last.1 k (x d) low (omega (arith, high, long)))) in
    elim (cases_lt to from) [
      | inl lt ↦ filter_none between points (λ k d below. elim (cases_lt k from) [
        | inl under ↦ before k d (omega arith) under
        | inr over ↦ behind k d (omega (arith, lt, over)) below
      ]) ∙ sym (slice_range_none points from to (omega (arith, lt)))
      | inr le ↦ filter_part between points from to le to_in before
          (λ k d low high. between_inside x1 x2 (x (get_or points k d))
          (subst (λ z. int_lt z x1 ≡ false) (get_or-map x points k d (x d) (omega (arith, high, to_in))) (first.1 k (x d) low (omega (arith, high, to_in, long))))
          (subst (λ z. int_le z x2 ≡ true) (get_or-map x points k d (x d) (omega (arith, high, to_in))) (last.0 k (x d) (omega arith) high)))
          behind
    ]
