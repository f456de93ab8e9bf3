-- The slots of points that stand one behind the other, in the order of their places and in any other, and the points in the order of their slots.
use Rattle.std.proofs.Common.{◌≡◌, ◌∙◌, ◌+◌, ◌<◌, ◌==◌, ℕ, zero, suc, ℤ, pos, cond, List, [], ◌∷◌, ◌++◌, length, get_or, map, refl, sym, ap, subst, inl, inr, arith, eq-eqb}
use Rattle.std.proofs.lemmas.Bool.{cases_eq}
use Rattle.std.proofs.lemmas.Bool.Decides.{nat_tests}
use Rattle.std.proofs.lemmas.List.{get_or-map, get_or_default, length-map}
use Rattle.std.proofs.lemmas.List.Edits.{Swapped, swapped_from_swap, length-swap}
use Rattle.std.proofs.lemmas.List.Elements.{All-cons, All-map, All-nil}
use Rattle.std.proofs.lemmas.List.Sorted.{All-permutation, IsPermutation-keeps, IsPermutation-map, length_permutation}
use Rattle.std.proofs.lemmas.Simd.{map-map}
use Rattle.std.specs.List.{range_with_len, swap}
use Rattle.std.specs.Ordering.{is_lt, int_cmp}
use Rattle.std.specs.List.Sorted.{IsPermutation}
use Rattle.std.specs.Prelude.{◌⊎◌, All}
use Rattle.extreme_sweep.specs.declared.axis.Axis.{Axis}
use Rattle.extreme_sweep.specs.declared.window.SweepPoint.{SweepPoint}
use Rattle.extreme_sweep.specs.Ranking.{points_of}
use Rattle.extreme_sweep.specs.Slots.{coordinate, point_at, slot_at, slot_of, slots_from, Slot, AreSlots, SlotsRise}
use Rattle.rank_table.specs.Orders.{number_at, IsOrder}
use Rattle.rank_table.proofs.Ordering.{not_less}

pub slots-push : (axis : Axis) (n : ℕ) (points : List SweepPoint) (point : SweepPoint)
    → slots_from axis n (points ++ point ∷ []) ≡ slots_from axis n points ++ record { coordinate = coordinate axis point; place = n + length points } ∷ []
slots-push axis n [] point =
    let place : n ≡ n + 0 = omega arith in
    ap (λ (p : ℕ). record { coordinate = coordinate axis point; place = p } ∷ []) place
slots-push axis n (first ∷ points) point =
    let place : (n + 1) + length points ≡ n + suc (length points) = omega arith in
    ap (λ l. record { coordinate = coordinate axis first; place = n } ∷ l) (slots-push axis (n + 1) points point
    ∙ ap (λ (p : ℕ). slots_from axis (n + 1) points ++ record { coordinate = coordinate axis point; place = p } ∷ []) place)

pub length-slots_from : (axis : Axis) (n : ℕ) (points : List SweepPoint) → length (slots_from axis n points) ≡ length points
length-slots_from axis n [] = refl
length-slots_from axis n (point ∷ points) = ap suc (length-slots_from axis (n + 1) points)

slots_from-at : (axis : Axis) (n : ℕ) (points : List SweepPoint) (k : ℕ) → k < length points
    → slot_at (slots_from axis n points) k ≡ record { coordinate = coordinate axis (point_at points k); place = n + k }
slots_from-at axis n [] k inside = absurd (omega arith)
slots_from-at axis n (point ∷ points) zero inside = let place : n ≡ n + 0 = omega arith in ap (λ (p : ℕ). record { coordinate = coordinate axis point; place = p }) place
slots_from-at axis n (point ∷ points) (suc k) inside =
    let place : (n + 1) + k ≡ n + suc k = omega arith in
    slots_from-at axis (n + 1) points k (omega arith) ∙ ap (λ (p : ℕ). record { coordinate = coordinate axis (point_at points k); place = p }) place

-- the number that i and j exchange
abbrev exchanged : ℕ → ℕ → ℕ → ℕ
exchanged i j k = cond (k == i) j (cond (k == j) i k)

exchanged-twice : (i j k : ℕ) → exchanged i j (exchanged i j k) ≡ k
exchanged-twice i j k = grind (arith, nat_tests)

exchanged-below : (i j k n : ℕ) → i < n → j < n → k < n → exchanged i j k < n
exchanged-below i j k n first second inside = grind (arith, nat_tests)

exchanged-second : (i j k : ℕ) → (k ≡ i → ⊥) → k ≡ j → i ≡ exchanged i j k
exchanged-second i j k other same = grind (arith, nat_tests)

exchanged-none : (i j k : ℕ) → (k ≡ i → ⊥) → (k ≡ j → ⊥) → k ≡ exchanged i j k
exchanged-none i j k other another = grind (arith, nat_tests)

swap-at : (slots : List Slot) (i j k : ℕ) → i < length slots → j < length slots → slot_at (swap slots i j) k ≡ slot_at slots (exchanged i j k)
swap-at slots i j k first second = by (cases_eq k i) (cases_eq k j)
  where
    moved : Swapped (slot_at slots) (slot_at (swap slots i j)) i j
    moved = swapped_from_swap slots (swap slots i j) i j (record { coordinate = pos 0; place = 0 }) first second refl

    by : (k ≡ i) ⊎ (k ≡ i → ⊥) → (k ≡ j) ⊎ (k ≡ j → ⊥) → slot_at (swap slots i j) k ≡ slot_at slots (exchanged i j k)
    by (inl same) at = ap (slot_at (swap slots i j)) same ∙ moved.0 ∙ ap (λ b. slot_at slots (cond b j (cond (k == j) i k))) (sym (eq-eqb k i same))
    by (inr other) (inl same) = ap (slot_at (swap slots i j)) same ∙ moved.1 ∙ ap (slot_at slots) (exchanged-second i j k other same)
    by (inr other) (inr another) = moved.2 k other another ∙ ap (slot_at slots) (exchanged-none i j k other another)

first-slots : (axis : Axis) (points : List SweepPoint) → AreSlots axis points (slots_from axis 0 points) (λ p. p)
first-slots axis points = record {
  count = length-slots_from axis 0 points;
  inside = λ k inside. let here : k < length points = omega (arith, length-slots_from axis 0 points) in
      omega (arith, ap (λ (s : Slot). s.place) (slots_from-at axis 0 points k here));
  along = λ k inside. let here : k < length points = omega (arith, length-slots_from axis 0 points) in
      let at = slots_from-at axis 0 points k here in
      let place : k ≡ (slot_at (slots_from axis 0 points) k).place = omega (arith, ap (λ (s : Slot). s.place) at) in
      ap (λ (s : Slot). s.coordinate) at ∙ ap (λ n. coordinate axis (point_at points n)) place;
  ranked = λ k inside. let here : k < length points = omega (arith, length-slots_from axis 0 points) in
      omega (arith, ap (λ (s : Slot). s.place) (slots_from-at axis 0 points k here));
  rank_inside = λ p inside. omega (arith, length-slots_from axis 0 points);
  placed = λ p inside. omega (arith, ap (λ (s : Slot). s.place) (slots_from-at axis 0 points p inside));
}

swapped-slots : (axis : Axis) (points : List SweepPoint) (slots : List Slot) (rank : ℕ → ℕ) (i j : ℕ) → i < length slots → j < length slots
    → AreSlots axis points slots rank → AreSlots axis points (swap slots i j) (λ p. exchanged i j (rank p))
swapped-slots axis points slots rank i j first second old =
    let size = length-swap slots i j in
    let at = λ (k : ℕ). swap-at slots i j k first second in
    let still = λ (k : ℕ) (inside : k < length (swap slots i j)). exchanged-below i j k (length slots) first second (omega (arith, size)) in
    record {
      count = size ∙ old.count;
      inside = λ k inside. subst (λ (s : Slot). s.place < length points) (sym (at k)) (old.inside (exchanged i j k) (still k inside));
      along = λ k inside. subst (λ (s : Slot). s.coordinate ≡ coordinate axis (point_at points s.place)) (sym (at k)) (old.along (exchanged i j k) (still k inside));
      ranked = λ k inside. ap (λ (s : Slot). exchanged i j (rank s.place)) (at k) ∙ ap (exchanged i j) (old.ranked (exchanged i j k) (still k inside)) ∙ exchanged-twice i j k;
      rank_inside = λ p inside. omega (arith, size, exchanged-below i j (rank p) (length slots) first second (old.rank_inside p inside));
      placed = λ p inside. ap (λ (s : Slot). s.place) (at (exchanged i j (rank p))) ∙ ap (λ n. (slot_at slots n).place) (exchanged-twice i j (rank p)) ∙ old.placed p inside;
    }

-- the slots of all points, in any order, are theirs
pub slots-moved : (axis : Axis) (points : List SweepPoint) (slots : List Slot) → IsPermutation (slots_from axis 0 points) slots → (rank : ℕ → ℕ) × AreSlots axis points slots rank
slots-moved axis points slots moved =
    IsPermutation-keeps (slots_from axis 0 points) (λ l. (rank : ℕ → ℕ) × AreSlots axis points l rank) ((λ p. p), first-slots axis points)
    (λ l i j first second old. ((λ p. exchanged i j (old.0 p)), swapped-slots axis points l old.0 i j first second old.1)) slots moved

-- ---- points in the order of their slots

module _ (axis : Axis) (whole : List SweepPoint) where
  -- a slot is that of the point at its place
  abbrev pub IsSlot : Slot → Type 0
  IsSlot slot = (slot.place < length whole) × (slot.coordinate ≡ coordinate axis (point_at whole slot.place))

  module _ where
    -- these points are those with the numbers from n on
    abbrev Follow : ℕ → List SweepPoint → Type 0
    Follow n points = (k : ℕ) → k < length points → (n + k < length whole) × (point_at whole (n + k) ≡ point_at points k)

    follow-next : (n : ℕ) (point : SweepPoint) (points : List SweepPoint) → Follow n (point ∷ points) → Follow (n + 1) points
    follow-next n point points follow k inside =
        let place : n + suc k ≡ (n + 1) + k = omega arith in
        subst (λ (j : ℕ). (j < length whole) × (point_at whole j ≡ point_at points k)) place (follow (suc k) (omega (arith, inside)))

    follow-first : (n : ℕ) (point : SweepPoint) (points : List SweepPoint) → Follow n (point ∷ points) → (n < length whole) × (point_at whole n ≡ point)
    follow-first n point points follow =
        let place : n + 0 ≡ n = omega arith in
        subst (λ (j : ℕ). (j < length whole) × (point_at whole j ≡ point)) place (follow 0 (omega arith))

    slots-right : (n : ℕ) (points : List SweepPoint) → Follow n points → All IsSlot (slots_from axis n points)
    slots-right n [] follow = All-nil IsSlot
    slots-right n (point ∷ points) follow =
        let first = follow-first n point points follow in
        All-cons IsSlot (record { coordinate = coordinate axis point; place = n }) (slots_from axis (n + 1) points) (first.0, sym (ap (coordinate axis) first.1))
        (slots-right (n + 1) points (follow-next n point points follow))

    slots-points : (n : ℕ) (points : List SweepPoint) → Follow n points → map (λ (s : Slot). point_at whole s.place) (slots_from axis n points) ≡ points
    slots-points n [] follow = refl
    slots-points n (point ∷ points) follow =
        (λ i. (follow-first n point points follow).1 i ∷ slots-points (n + 1) points (follow-next n point points follow) i)

  whole-follows : Follow 0 whole
  whole-follows k inside =
      let place : k ≡ 0 + k = omega arith in
      subst (λ (j : ℕ). (j < length whole) × (point_at whole j ≡ point_at whole k)) place (inside, refl)

  same-along : (slots : List Slot) → All IsSlot slots → map (λ (s : Slot). s.coordinate) slots ≡ map (λ (s : Slot). coordinate axis (point_at whole s.place)) slots
  same-along [] all = refl
  same-along (slot ∷ slots) all = (λ i. (all 0 slot (omega arith)).1 i ∷ same-along slots (λ k d inside. all (suc k) d (omega (arith, inside))) i)

  module _ (slots : List Slot) (places : List ℕ) (moved : IsPermutation (slots_from axis 0 whole) slots) (are : places ≡ map (λ (s : Slot). s.place) slots) where
    laid-right : All IsSlot slots
    laid-right = All-permutation IsSlot (slots_from axis 0 whole) slots moved (slots-right 0 whole whole-follows)

    laid-are : points_of whole places ≡ map (λ (s : Slot). point_at whole s.place) slots
    laid-are = ap (points_of whole) are ∙ map-map (λ (p : ℕ). point_at whole p) (λ (s : Slot). s.place) slots

    pub laid-all : length places ≡ length whole
    laid-all = omega (arith, ap length are, length-map slots (λ (s : Slot). s.place), length_permutation (slots_from axis 0 whole) slots moved, length-slots_from axis 0 whole)

    pub laid-inside : All (λ (p : ℕ). p < length whole) places
    laid-inside = subst (All (λ (p : ℕ). p < length whole)) (sym are)
        (All-map (λ (p : ℕ). p < length whole) (λ (s : Slot). s.place) slots (λ k d inside. (laid-right k d inside).0))

    pub laid-moved : IsPermutation whole (points_of whole places)
    laid-moved = subst (IsPermutation whole) (sym laid-are)
        (subst (λ (l : List SweepPoint). IsPermutation l (map (λ (s : Slot). point_at whole s.place) slots)) (slots-points 0 whole whole-follows)
        (IsPermutation-map (λ (s : Slot). point_at whole s.place) (slots_from axis 0 whole) slots moved))

    pub laid-along : map (λ (s : Slot). s.coordinate) slots ≡ map (coordinate axis) (points_of whole places)
    laid-along = same-along slots laid-right ∙ sym (ap (map (coordinate axis)) laid-are ∙ map-map (coordinate axis) (λ (s : Slot). point_at whole s.place) slots)

  -- the slots of the points in the order of their places, from the place n on
  slots-each : (n : ℕ) (points : List SweepPoint) → Follow n points
      → slots_from axis n points ≡ map (slot_of (map (coordinate axis) whole)) (range_with_len n (length points))
  slots-each n [] follow = refl
  slots-each n (point ∷ points) follow =
      let first = follow-first n point points follow in
      let along : coordinate axis point ≡ get_or (map (coordinate axis) whole) n (pos 0) =
      sym (get_or-map (coordinate axis) whole n (point_at whole n) (pos 0) first.0 ∙ ap (coordinate axis) (get_or_default whole n _ _ first.0 ∙ first.1)) in
      (λ i. record { coordinate = along i; place = n } ∷ slots-each (n + 1) points (follow-next n point points follow) i)

  module _ (order : List ℕ) (is : IsOrder (map (coordinate axis) whole) order) where
    pub slots-placed : IsPermutation (slots_from axis 0 whole) (map (slot_of (map (coordinate axis) whole)) order)
    slots-placed =
        let size : length (map (coordinate axis) whole) ≡ length whole = length-map whole (coordinate axis) in
        subst (λ l. IsPermutation l (map (slot_of (map (coordinate axis) whole)) order))
        (ap (λ n. map (slot_of (map (coordinate axis) whole)) (range_with_len 0 n)) size ∙ sym (slots-each 0 whole whole-follows))
        (IsPermutation-map (slot_of (map (coordinate axis) whole)) (range_with_len 0 (length (map (coordinate axis) whole))) order is.places)

pub slots-rising : (coordinates : List ℤ) (order : List ℕ) → IsOrder coordinates order → SlotsRise (map (slot_of coordinates) order)
slots-rising coordinates order is k d from next =
    let size = length-map order (slot_of coordinates) in
    let here = get_or-map (slot_of coordinates) order k 0 d (omega (arith, next, size)) in
    let there = get_or-map (slot_of coordinates) order (k + 1) 0 d (omega (arith, next, size)) in
    let rise = (is.rising k (k + 1) 0 (omega arith) (omega (arith, next, size))).number in
    (λ i. is_lt (int_cmp (there i).coordinate (here i).coordinate)) ∙ not_less (number_at coordinates (get_or order k 0)) (number_at coordinates (get_or order (k + 1) 0)) rise

-- what the slots of an order have, one by one
pub places-of-slots : (coordinates : List ℤ) (order : List ℕ) → order ≡ map (λ (s : Slot). s.place) (map (slot_of coordinates) order)
places-of-slots coordinates [] = refl
places-of-slots coordinates (place ∷ order) = ap (λ l. place ∷ l) (places-of-slots coordinates order)

pub coordinates-of-slots : (coordinates : List ℤ) (order : List ℕ) → map (λ place. get_or coordinates place (pos 0)) order ≡ map (λ (s : Slot). s.coordinate) (map (slot_of coordinates) order)
coordinates-of-slots coordinates order = sym (map-map (λ (s : Slot). s.coordinate) (slot_of coordinates) order)
