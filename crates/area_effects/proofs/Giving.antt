-- What the edges up to a point's place add up to at its rank is what the boxes around the point come to.
use Rattle.std.proofs.Common.{◌≡◌, ◌∙◌, ℕ, ℤ, pos, neg_ℤ, ◌+ℤ◌, ◌+◌, ◌<◌, ◌≤◌, max, Bool, true, false, cond, leb, ltb, ◌&&◌, List, [], ◌∷◌, ◌++◌, length, get_or, take, drop, refl, sym, ap, arith}
use Rattle.std.specs.Prelude.{All, Contains, int_le, int_lt}
use Rattle.std.specs.List.Sorted.{IsPermutation}
use Rattle.std.proofs.lemmas.Bool.Decides.{nat_tests}
use Rattle.std.proofs.lemmas.Int.{ints}
use Rattle.std.proofs.lemmas.List.{take-append-drop}
use Rattle.std.proofs.lemmas.List.Elements.{All-tail}
use Rattle.std.proofs.lemmas.List.Sums.{count_by-le-length}
use Rattle.sgl_values.specs.Totals.{total}
use Rattle.sgl_values.specs.Range.{is_between}
use Rattle.sgl_values.proofs.Permutations.{total-IsPermutation}
use Rattle.area_effects.specs.declared.area_box.AreaBox.{AreaBox}
use Rattle.area_effects.specs.declared.edge.Edge.{Edge}
use Rattle.area_effects.specs.declared.point.AreaPoint.{AreaPoint}
use Rattle.area_effects.specs.declared.sweep.Sweep.{Sweep}
use Rattle.area_effects.specs.Edges.{opening, closing, edges_of, covers, covered}
use Rattle.area_effects.specs.Ranks.{count_below, count_through}
use Rattle.area_effects.specs.Spread.{is_inside, around, sum_at, count_at}
use Rattle.area_effects.specs.Sweeping.{StandsAt}
use Rattle.area_effects.proofs.Counting.{count-le, count-lt}

-- ---- a number between two others, by ranks

module _ (numbers : List ℤ) (x : ℤ) (among : Contains numbers x) where
  lt-irreflexive : int_lt x x ≡ false
  lt-irreflexive = grind (arith, ints)

  at : (test : ℤ → Bool) (b : Bool) → test x ≡ b → test (get_or numbers among.0 x) ≡ b
  at test b is = ap test among.2 ∙ is

  not-below : (low : ℤ) → int_le low x ≡ true → count_below numbers low ≤ count_below numbers x
  not-below low order = count-le (λ z. int_lt z low) (λ z. int_lt z x) (λ z below. grind (arith, ints)) numbers

  below : (low : ℤ) → int_le low x ≡ false → count_below numbers x < count_below numbers low
  below low order = count-lt (λ z. int_lt z x) (λ z. int_lt z low) (λ z before. grind (arith, ints)) numbers among.0 x among.1
      (at (λ z. int_lt z x) false lt-irreflexive) (at (λ z. int_lt z low) true (grind (arith, ints)))

  not-above : (high : ℤ) → int_le x high ≡ true → count_below numbers x < count_through numbers high
  not-above high order = count-lt (λ z. int_lt z x) (λ z. int_le z high) (λ z before. grind (arith, ints)) numbers among.0 x among.1
      (at (λ z. int_lt z x) false lt-irreflexive) (at (λ z. int_le z high) true order)

  above : (high : ℤ) → int_le x high ≡ false → count_through numbers high ≤ count_below numbers x
  above high order = count-le (λ z. int_le z high) (λ z. int_lt z x) (λ z through. grind (arith, ints)) numbers

  pub between-ranks : (low high : ℤ) → is_between low high x
      ≡ (leb (count_below numbers low) (count_below numbers x) && ltb (count_below numbers x) (max (count_through numbers high) (count_below numbers low)))
  between-ranks low high = by (int_le low x) (int_le x high) (count_below numbers low) (count_below numbers x) (count_through numbers high)
      (not-below low) (below low) (not-above high) (above high)
    where
      by : (first second : Bool) (from rank to : ℕ) → (first ≡ true → from ≤ rank) → (first ≡ false → rank < from) → (second ≡ true → rank < to) → (second ≡ false → to ≤ rank)
          → (first && second) ≡ (leb from rank && ltb rank (max to from))
      by true true from rank to one two three four = let low-is = one refl in let high-is = three refl in grind (arith, nat_tests)
      by true false from rank to one two three four = let low-is = one refl in let high-is = four refl in grind (arith, nat_tests)
      by false second from rank to one two three four = let low-is = two refl in grind (arith, nat_tests)

  pub rank-inside : count_below numbers x < length numbers
  rank-inside = omega (arith, not-above x (grind (arith, ints)), count_through-le)
    where
      count_through-le : count_through numbers x ≤ length numbers
      count_through-le = count_by-le-length (λ z. int_le z x) numbers

-- ---- what edges up to a place give at the places before another

module _ (worth : Edge → ℤ) (place end : ℕ) where
  -- what an edge gives
  abbrev gift : Edge → ℤ
  gift edge = cond (leb edge.place place) (cond (covers edge end) (worth edge) (pos 0)) (pos 0)

  abbrev given : List Edge → ℤ
  given edges = total ◌+ℤ◌ (pos 0) gift edges

  early : (edge : Edge) → edge.place ≤ place → gift edge ≡ cond (covers edge end) (worth edge) (pos 0)
  early edge order = let passes : leb edge.place place ≡ true = grind (arith, nat_tests) in ap (λ b. cond b (cond (covers edge end) (worth edge) (pos 0)) (pos 0)) passes

  late : (edge : Edge) → place < edge.place → gift edge ≡ pos 0
  late edge order = let fails : leb edge.place place ≡ false = grind (arith, nat_tests) in ap (λ b. cond b (cond (covers edge end) (worth edge) (pos 0)) (pos 0)) fails

  given-early : (edges : List Edge) → All (λ edge. edge.place ≤ place) edges → given edges ≡ covered worth edges end
  given-early [] all = refl
  given-early (edge ∷ edges) all =
      omega (arith, ints, early edge (all 0 edge (omega arith)), given-early edges (All-tail (λ (edge : Edge). edge.place ≤ place) edge edges all))

  given-late : (edges : List Edge) → All (λ edge. place < edge.place) edges → given edges ≡ pos 0
  given-late [] all = refl
  given-late (edge ∷ edges) all =
      omega (arith, ints, late edge (all 0 edge (omega arith)), given-late edges (All-tail (λ (edge : Edge). place < edge.place) edge edges all))

  given-append : (edges others : List Edge) → given (edges ++ others) ≡ given edges +ℤ given others
  given-append [] others = omega (arith, ints)
  given-append (edge ∷ edges) others = omega (arith, ints, given-append edges others)

  given-passed : (sweep : Sweep) → StandsAt place sweep → given sweep.edges.items ≡ covered worth (take sweep.next sweep.edges.items) end
  given-passed sweep stands =
      let passed = take sweep.next sweep.edges.items in let left = drop sweep.next sweep.edges.items in
      omega (arith, ints, ap given (take-append-drop sweep.next sweep.edges.items), given-append passed left, given-early passed stands.passed, given-late left stands.left)

  given-moved : (edges others : List Edge) → IsPermutation edges others → given others ≡ given edges
  given-moved edges others moved = total-IsPermutation ◌+ℤ◌ (pos 0) gift (λ a b c. omega (arith, ints)) (λ a b. omega (arith, ints)) edges others moved

-- ---- what the boxes give

reached-over : (rank to : ℕ) → ltb rank to ≡ true → leb to rank ≡ false
reached-over rank to reached = grind (arith, nat_tests)

not-reached-over : (rank to : ℕ) → ltb rank to ≡ false → leb to rank ≡ true
not-reached-over rank to reached = grind (arith, nat_tests)

not-reached-begun : (rank from through : ℕ) → ltb rank (max through from) ≡ false → leb from rank ≡ true
not-reached-begun rank from through reached = grind (arith, nat_tests)

module _ (xs ys : List ℤ) (point : AreaPoint) (x-among : Contains xs point.x) (y-among : Contains ys point.y) (worth : Edge → ℤ) (value : AreaBox → ℤ)
    (opens : (area : AreaBox) → worth (opening xs ys area) ≡ value area) (closes : (area : AreaBox) → worth (closing xs ys area) ≡ neg_ℤ (value area)) where
  abbrev a : ℕ
  a = count_below xs point.x

  abbrev b : ℕ
  b = count_below ys point.y

  covers-rank : (low high rank : ℕ) → (ltb low (rank + 1) && leb (rank + 1) high) ≡ (leb low rank && ltb rank high)
  covers-rank low high rank = grind (arith, nat_tests)

  two-gifts : (begun reached over along : Bool) (one other amount : ℤ) → one ≡ amount → other ≡ neg_ℤ amount → (reached ≡ true → over ≡ false) → (reached ≡ false → over ≡ true) → (reached ≡ false → begun ≡ true)
      → cond begun (cond along one (pos 0)) (pos 0) +ℤ cond over (cond along other (pos 0)) (pos 0) ≡ cond ((begun && reached) && along) amount (pos 0)
  two-gifts begun true true along one other amount opens closes first second third = cc (first refl)
  two-gifts begun false false along one other amount opens closes first second third = cc (second refl)
  two-gifts false false true along one other amount opens closes first second third = cc (third refl)
  two-gifts true true false true one other amount opens closes first second third = omega (arith, ints, opens)
  two-gifts true true false false one other amount opens closes first second third = omega (arith, ints)
  two-gifts true false true true one other amount opens closes first second third = omega (arith, ints, opens, closes)
  two-gifts true false true false one other amount opens closes first second third = omega (arith, ints)
  two-gifts false true false along one other amount opens closes first second third = omega (arith, ints)

  box-given : (area : AreaBox) → gift worth a (b + 1) (opening xs ys area) +ℤ gift worth a (b + 1) (closing xs ys area) ≡ cond (is_inside point area) (value area) (pos 0)
  box-given area =
      let from = count_below xs area.x1 in let to = max (count_through xs area.x2) from in
      let low = count_below ys area.y1 in let high = max (count_through ys area.y2) low in
      let across = between-ranks xs point.x x-among area.x1 area.x2 in
      let along : is_between area.y1 area.y2 point.y ≡ covers (opening xs ys area) (b + 1) = between-ranks ys point.y y-among area.y1 area.y2 ∙ sym (covers-rank low high b) in
      two-gifts (leb from a) (ltb a to) (leb to a) (covers (opening xs ys area) (b + 1)) (worth (opening xs ys area)) (worth (closing xs ys area)) (value area) (opens area) (closes area)
      (reached-over a to) (not-reached-over a to) (not-reached-begun a from (count_through xs area.x2))
      ∙ sym (λ i. cond (across i && along i) (value area) (pos 0))

  pub boxes-given : (boxes : List AreaBox) → given worth a (b + 1) (edges_of xs ys boxes) ≡ total ◌+ℤ◌ (pos 0) value (around boxes point)
  boxes-given [] = refl
  boxes-given (area ∷ boxes) = omega (arith, ints, box-given area, boxes-given boxes, one-more (is_inside point area))
    where
      one-more : (inside : Bool) → total ◌+ℤ◌ (pos 0) value (cond inside (area ∷ around boxes point) (around boxes point))
          ≡ cond inside (value area) (pos 0) +ℤ total ◌+ℤ◌ (pos 0) value (around boxes point)
      one-more true = refl
      one-more false = omega (arith, ints)

-- the number of items as a total
pub total-ones : {A : Type 0} (items : List A) → total ◌+ℤ◌ (pos 0) (λ item. pos 1) items ≡ pos (length items)
total-ones [] = refl
total-ones (item ∷ items) = omega (arith, ints, total-ones items)

module _ (xs ys : List ℤ) (point : AreaPoint) (x-among : Contains xs point.x) (y-among : Contains ys point.y) (boxes : List AreaBox) (sweep : Sweep)
    (moved : IsPermutation (edges_of xs ys boxes) sweep.edges.items) (stands : StandsAt (count_below xs point.x) sweep) where
  abbrev end : ℕ
  end = count_below ys point.y + 1

  pub sum-found : covered (λ edge. edge.amount) (take sweep.next sweep.edges.items) end ≡ sum_at boxes point
  sum-found =
      sym (given-passed (λ edge. edge.amount) (count_below xs point.x) end sweep stands)
      ∙ given-moved (λ edge. edge.amount) (count_below xs point.x) end (edges_of xs ys boxes) sweep.edges.items moved
      ∙ boxes-given xs ys point x-among y-among (λ edge. edge.amount) (λ area. area.amount) (λ area. refl) (λ area. refl) boxes

  pub count-found : covered (λ edge. edge.count) (take sweep.next sweep.edges.items) end ≡ pos (count_at boxes point)
  count-found =
      sym (given-passed (λ edge. edge.count) (count_below xs point.x) end sweep stands)
      ∙ given-moved (λ edge. edge.count) (count_below xs point.x) end (edges_of xs ys boxes) sweep.edges.items moved
      ∙ boxes-given xs ys point x-among y-among (λ edge. edge.count) (λ area. pos 1) (λ area. refl) (λ area. refl) boxes
      ∙ total-ones (around boxes point)
