-- Points, and their slots by a coordinate.
use Rattle.std.specs.Prelude.{◌≡◌, ℕ, ◌+◌, ◌<◌, ◌≤◌, Bool, ◌&&◌, nat_le, nat_lt, pos, ℤ, List, [], ◌∷◌, length, slice_index_or}
use Rattle.std.specs.Ordering.{int_cmp}
use Rattle.std.specs.List.Sorted.{IsSortedByKey}
use Rattle.extreme_sweep.specs.declared.axis.Axis.{Axis}
use Rattle.extreme_sweep.specs.declared.axis.Axis.TheVariants.{X, Y}
use Rattle.extreme_sweep.specs.declared.window.SweepPoint.{SweepPoint}

-- where the point with this coordinate stands
pub record Slot : Type 0 where
  pub coordinate : ℤ
  pub place : ℕ

abbrev pub point_at : List SweepPoint → ℕ → SweepPoint
point_at points k = slice_index_or points k record { x = pos 0; y = pos 0; entry = record { pair = record { value = pos 0; key = 0 }; group = pos 0 } }

abbrev pub slot_at : List Slot → ℕ → Slot
slot_at slots k = slice_index_or slots k record { coordinate = pos 0; place = 0 }

abbrev pub coordinate : Axis → SweepPoint → ℤ
coordinate X point = point.x
coordinate Y point = point.y

-- the slots along an axis of points that stand one behind the other, from this place on
abbrev pub slots_from : Axis → ℕ → List SweepPoint → List Slot
slots_from axis place [] = []
slots_from axis place (point ∷ points) = record { coordinate = coordinate axis point; place = place } ∷ slots_from axis (place + 1) points

-- the slot of the point at a place, by the coordinates of all points
abbrev pub slot_of : List ℤ → ℕ → Slot
slot_of coordinates place = record { coordinate = slice_index_or coordinates place (pos 0); place = place }

abbrev pub SlotsRise : List Slot → Type 0
SlotsRise = IsSortedByKey (λ slot. slot.coordinate) int_cmp

-- whether a number is one of those from `low` to before `high`
abbrev pub is_among : ℕ → ℕ → ℕ → Bool
is_among low high k = nat_le low k && nat_lt k high

-- the items that pass a test are those from number `low` to before `high`
pub record IsRange {A : Type 0} (test : A → Bool) (items : List A) (low high : ℕ) : Type 0 where
  pub bound : high ≤ length items
  pub passes : (k : ℕ) (d : A) → k < length items → test (slice_index_or items k d) ≡ is_among low high k

-- the slots along an axis are those of the points: place p has the slot with the number `rank p`
pub record AreSlots (axis : Axis) (points : List SweepPoint) (slots : List Slot) (rank : ℕ → ℕ) : Type 0 where
  pub count : length slots ≡ length points
  pub inside : (k : ℕ) → k < length slots → (slot_at slots k).place < length points
  pub along : (k : ℕ) → k < length slots → (slot_at slots k).coordinate ≡ coordinate axis (point_at points (slot_at slots k).place)
  pub ranked : (k : ℕ) → k < length slots → rank (slot_at slots k).place ≡ k
  pub rank_inside : (p : ℕ) → p < length points → rank p < length slots
  pub placed : (p : ℕ) → p < length points → (slot_at slots (rank p)).place ≡ p
