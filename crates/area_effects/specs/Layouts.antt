-- Points as a sweep meets them.
use Rattle.std.specs.Prelude.{◌≡◌, ℕ, ℤ, pos, ◌<◌, ◌≤◌, List, length, map, All, Contains, slice_index_or}
use Rattle.std.specs.List.Sorted.{IsNonDecreasingBy}
use Rattle.area_effects.specs.declared.layout.Layout.{Layout}
use Rattle.area_effects.specs.declared.point.AreaPoint.{AreaPoint}
use Rattle.area_effects.specs.declared.spot.Spot.{Spot}
use Rattle.area_effects.specs.Ranks.{IsAxis, count_below}
use Rattle.sgl_values.specs.declared.limit.TheConstants.{ROWS_MAX}

abbrev pub point_at : List AreaPoint → ℕ → AreaPoint
point_at points i = slice_index_or points i record { x = pos 0; y = pos 0 }

-- the spot of a point among points with these numbers along the axes
abbrev pub spot_of : List ℤ → List ℤ → List AreaPoint → ℕ → Spot
spot_of xs ys points i = record { place = count_below xs (point_at points i).x; rank = count_below ys (point_at points i).y; point = i }

-- the spots of the first points, in their order
pub record AreFirstSpots (xs ys : List ℤ) (points : List AreaPoint) (number : ℕ) (spots : List Spot) : Type 0 where
  pub long : length spots ≡ number
  pub each : (i : ℕ) (d : Spot) → i < number → slice_index_or spots i d ≡ spot_of xs ys points i

-- the spots of all points, by rising place
pub record AreSpots (xs ys : List ℤ) (points : List AreaPoint) (spots : List Spot) : Type 0 where
  pub inside : All (λ spot. spot.point < length points) spots
  pub each : All (λ spot. spot ≡ spot_of xs ys points spot.point) spots
  pub whole : (i : ℕ) → i < length points → Contains spots (spot_of xs ys points i)
  pub rising : IsNonDecreasingBy (λ spot. spot.place) spots

-- what every layout meets
pub record IsLayout (layout : Layout) : Type 0 where
  pub few : length layout.points.items ≤ ROWS_MAX
  pub xs : IsAxis (map (λ point. point.x) layout.points.items) layout.xs.numbers.items
  pub ys : IsAxis (map (λ point. point.y) layout.points.items) layout.ys.numbers.items
  pub spots : AreSpots layout.xs.numbers.items layout.ys.numbers.items layout.points.items layout.spots.items
