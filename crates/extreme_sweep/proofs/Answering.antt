-- What the tree of a sweeper answers for a window.
use Rattle.std.proofs.Common.{◌≡◌, ◌∙◌, ◌+◌, ◌-◌, ◌<◌, ◌≤◌, ℕ, zero, suc, pos, Bool, true, false, cond, ◌&&◌, List, [], ◌∷◌, length, get_or, take, drop, map, refl, sym, ap, inl, inr, arith}
use Rattle.std.proofs.lemmas.Bool.Decides.{nat_tests}
use Rattle.std.proofs.lemmas.List.{get_or-map, get_or_default, length-map, same_lists, take-map, drop-map}
use Rattle.std.proofs.Math.Bool.{and-false}
use Rattle.std.specs.List.{filter, cons_option}
use Rattle.std.specs.Prelude.{Option, Some, None, slice_range, ◌⊎◌}
use Rattle.sgl_values.specs.Range.{is_between}
use Rattle.extreme_sweep.specs.declared.pair.Entry.{Entry}
use Rattle.extreme_sweep.specs.declared.axis.Axis.TheVariants.{X}
use Rattle.extreme_sweep.specs.declared.window.SweepPoint.{SweepPoint}
use Rattle.extreme_sweep.specs.declared.window.Window.{Window}
use Rattle.extreme_sweep.specs.Pairs.{least_other_than}
use Rattle.extreme_sweep.specs.Places.{entries_of, least_between}
use Rattle.extreme_sweep.specs.Slots.{point_at, slot_at, is_among, Slot, IsRange, AreSlots}
use Rattle.extreme_sweep.specs.Sweeping.{Holds}
use Rattle.extreme_sweep.specs.Windows.{is_inside, least_inside}

among-head : (low high : ℕ) → is_among (suc low) high 0 ≡ false
among-head low high = grind (arith, nat_tests)

among-tail : (low high k : ℕ) → is_among (suc low) high (suc k) ≡ is_among low (high - 1) k
among-tail low high k = grind (arith, nat_tests)

among-begin : (high : ℕ) → is_among 0 (suc high) 0 ≡ true
among-begin high = grind (arith, nat_tests)

among-begun : (high k : ℕ) → is_among 0 (suc high) (suc k) ≡ is_among 0 high k
among-begun high k = grind (arith, nat_tests)

among-none : (low high k : ℕ) → high ≤ low → is_among low high k ≡ false
among-none low high k order = grind (arith, nat_tests)

take-nil : {A : Type 0} (n low : ℕ) → take n (drop low (let nil : List A = [] in nil)) ≡ []
take-nil zero low = refl
take-nil (suc n) zero = refl
take-nil (suc n) (suc low) = refl

module _ {A : Type 0} (test : A → Bool) where
  filter-skip : (x : A) (xs : List A) → test x ≡ false → filter test (x ∷ xs) ≡ filter test xs
  filter-skip x xs is = ap (λ (b : Bool). cond b (x ∷ filter test xs) (filter test xs)) is

  filter-keep : (x : A) (xs : List A) → test x ≡ true → filter test (x ∷ xs) ≡ x ∷ filter test xs
  filter-keep x xs is = ap (λ (b : Bool). cond b (x ∷ filter test xs) (filter test xs)) is

  filter-none : (xs : List A) → ((k : ℕ) (d : A) → k < length xs → test (get_or xs k d) ≡ false) → filter test xs ≡ []
  filter-none [] none = refl
  filter-none (x ∷ xs) none = filter-skip x xs (none 0 x (omega arith)) ∙ filter-none xs (λ k d inside. none (suc k) d (omega arith))

  -- the items that pass a test stand one behind the other
  filter-range : (xs : List A) (low high : ℕ) → ((k : ℕ) (d : A) → k < length xs → test (get_or xs k d) ≡ is_among low high k)
      → filter test xs ≡ take (high - low) (drop low xs)
  filter-range [] low high passes = sym (take-nil (high - low) low)
  filter-range (x ∷ xs) zero zero passes = filter-none (x ∷ xs) (λ k d inside. passes k d inside ∙ among-none 0 0 k (omega arith))
  filter-range (x ∷ xs) zero (suc high) passes =
      let more : suc high - 0 ≡ suc high = omega arith in
      let all : high - 0 ≡ high = omega arith in
      filter-keep x xs (passes 0 x (omega arith) ∙ among-begin high)
      ∙ ap (λ l. x ∷ l) (filter-range xs 0 high (λ k d inside. passes (suc k) d (omega arith) ∙ among-begun high k) ∙ ap (λ n. take n xs) all)
      ∙ ap (λ n. take n (x ∷ xs)) (sym more)
  filter-range (x ∷ xs) (suc low) high passes =
      let less : (high - 1) - low ≡ high - suc low = omega arith in
      filter-skip x xs (passes 0 x (omega arith) ∙ among-head low high)
      ∙ filter-range xs low (high - 1) (λ k d inside. passes (suc k) d (omega arith) ∙ among-tail low high k)
      ∙ ap (λ n. take n (drop low xs)) less

module _ (window : Window) where
  abbrev is_across : SweepPoint → Bool
  is_across point = is_between window.x1 window.x2 point.x

  abbrev is_along : SweepPoint → Bool
  is_along point = is_between window.y1 window.y2 point.y

  abbrev held : SweepPoint → Option Entry
  held point = cond (is_across point) (Some point.entry) None

  -- the entries of the points in the window
  entries-held : (points : List SweepPoint) → entries_of (map held (filter is_along points)) ≡ map (λ point. point.entry) (filter (is_inside window) points)
  entries-held [] = refl
  entries-held (point ∷ points) = by (is_across point) (is_along point) refl (entries-held points)
    where
      by : (a b : Bool) → is_across point ≡ a → entries_of (map held (filter is_along points)) ≡ map (λ p. p.entry) (filter (is_inside window) points)
          → entries_of (map held (cond b (point ∷ filter is_along points) (filter is_along points)))
          ≡ map (λ p. p.entry) (cond (a && b) (point ∷ filter (is_inside window) points) (filter (is_inside window) points))
      by true true across later = ap (λ t. cons_option (cond t (Some point.entry) None) (entries_of (map held (filter is_along points)))) across ∙ ap (λ l. point.entry ∷ l) later
      by false true across later = ap (λ t. cons_option (cond t (Some point.entry) None) (entries_of (map held (filter is_along points)))) across ∙ later
      by true false across later = later
      by false false across later = later

  -- no point has an x or no point has a y in the window
  pub least-across : (points : List SweepPoint) → ((k : ℕ) (d : SweepPoint) → k < length points → is_across (get_or points k d) ≡ false) → least_inside points window ≡ None
  least-across points none = ap (λ l. least_other_than window.other_than (map (λ p. p.entry) l))
      (filter-none (is_inside window) points (λ k d inside. ap (λ b. b && is_along (get_or points k d)) (none k d inside)))

  pub least-along : (points : List SweepPoint) → ((k : ℕ) (d : SweepPoint) → k < length points → is_along (get_or points k d) ≡ false) → least_inside points window ≡ None
  least-along points none = ap (λ l. least_other_than window.other_than (map (λ p. p.entry) l))
      (filter-none (is_inside window) points (λ k d inside. ap (λ b. is_across (get_or points k d) && b) (none k d inside) ∙ and-false (is_across (get_or points k d))))

abbrev nowhere : SweepPoint
nowhere = record { x = pos 0; y = pos 0; entry = record { pair = record { value = pos 0; key = 0 }; group = pos 0 } }

point-any : (points : List SweepPoint) (k : ℕ) (d : SweepPoint) → k < length points → get_or points k d ≡ point_at points k
point-any points k d inside = get_or_default points k d nowhere inside

module _ (window : Window) (points : List SweepPoint) (slots : List Slot) (rank : ℕ → ℕ) (are : AreSlots X points slots rank) (from to low high : ℕ)
    (across : IsRange (λ slot. is_between window.x1 window.x2 slot.coordinate) slots from to) (along : IsRange (λ point. is_between window.y1 window.y2 point.y) points low high) where
  ranked-across : (p : ℕ) → p < length points → is_across window (point_at points p) ≡ is_among from to (rank p)
  ranked-across p inside =
      let x : (slot_at slots (rank p)).coordinate ≡ (point_at points p).x = are.along (rank p) (are.rank_inside p inside) ∙ ap (λ n. (point_at points n).x) (are.placed p inside) in
      ap (is_between window.x1 window.x2) (sym x) ∙ across.passes (rank p) (record { coordinate = pos 0; place = 0 }) (are.rank_inside p inside)

  across-at : (k : ℕ) (d : SweepPoint) → k < length points → is_across window (get_or points k d) ≡ is_among from to (rank k)
  across-at k d inside = ap (is_across window) (point-any points k d inside) ∙ ranked-across k inside

  -- no slot, or no point, is in the window
  pub answer-none : (to ≤ from) ⊎ (high ≤ low) → least_inside points window ≡ None
  answer-none (inl none) = least-across window points (λ k d inside. across-at k d inside ∙ among-none from to (rank k) none)
  answer-none (inr none) = least-along window points (λ k d inside. along.passes k d inside ∙ among-none low high k none)

  module _ (places : List (Option Entry)) (holds : Holds points rank from to places) where
    places-held : places ≡ map (held window) points
    places-held = same_lists places (map (held window) points) (holds.count ∙ sym (length-map points (held window)))
        (λ k d inside.
        let k-inside : k < length points = omega (arith, holds.count) in
        get_or_default places k d None inside ∙ holds.entry k k-inside
        ∙ (λ i. cond (sym (ranked-across k k-inside) i) (Some (point_at points k).entry) None)
        ∙ sym (get_or-map (held window) points k nowhere d k-inside))

    pub answer-held : low < high → least_between places low (high - 1) window.other_than ≡ least_inside points window
    answer-held some =
        let end : (high - 1) + 1 ≡ high = omega arith in
        (λ i. least_other_than window.other_than (entries_of (slice_range (places-held i) low (end i))))
        ∙ ap (λ l. least_other_than window.other_than (entries_of l))
        (ap (take (high - low)) (drop-map (held window) low points) ∙ take-map (held window) (high - low) (drop low points)
        ∙ ap (map (held window)) (sym (filter-range (is_along window) points low high along.passes)))
        ∙ ap (least_other_than window.other_than) (entries-held window points)
