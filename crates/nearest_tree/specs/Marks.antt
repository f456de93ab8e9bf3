-- What is kept of points.
use Rattle.std.specs.Prelude.{◌≡◌, ◌≤ℤ◌, ℤ, Bool, int_le, int_lt, ◌-ℤ◌, List, if◌then◌else◌}
use Rattle.std.specs.List.{All, Contains}
use Rattle.sgl_values.specs.Distance.{squared_distance}
use Rattle.nearest_tree.specs.declared.mark.Mark.{Mark}
use Rattle.nearest_tree.specs.declared.point.NearPoint.{NearPoint}
use Rattle.nearest_tree.specs.Keys.{AreLeastKeys}

-- the number is the least that points have
pub record IsLeastOf (number : NearPoint → ℤ) (points : List NearPoint) (low : ℤ) : Type 0 where
  pub bound : All (λ point. low ≤ℤ number point) points
  pub met : (point : NearPoint) × Contains points point × (number point ≡ low)

-- it is the greatest
pub record IsGreatestOf (number : NearPoint → ℤ) (points : List NearPoint) (high : ℤ) : Type 0 where
  pub bound : All (λ point. number point ≤ℤ high) points
  pub met : (point : NearPoint) × Contains points point × (number point ≡ high)

-- a mark stands for points: its box is the least that holds them, and its keys are their least
pub record StandsFor (mark : Mark) (points : List NearPoint) : Type 0 where
  pub west : IsLeastOf (λ point. point.x) points mark.west
  pub east : IsGreatestOf (λ point. point.x) points mark.east
  pub south : IsLeastOf (λ point. point.y) points mark.south
  pub north : IsGreatestOf (λ point. point.y) points mark.north
  pub keys : AreLeastKeys mark.keys points

-- the lesser and the greater of two numbers
abbrev pub lesser_of_two : ℤ → ℤ → ℤ
lesser_of_two a b = if int_lt b a then b else a

abbrev pub greater_of_two : ℤ → ℤ → ℤ
greater_of_two a b = if int_lt a b then b else a

-- the number from the low one to the high one that is nearest to another
abbrev pub within : ℤ → ℤ → ℤ → ℤ
within low high number = if int_lt number low then low else if int_lt high number then high else number

-- the square of the distance from (x, y) to the nearest place of a box
abbrev pub box_distance : ℤ → ℤ → Mark → ℤ
box_distance x y mark = squared_distance x y (within mark.west mark.east x) (within mark.south mark.north y)

-- whether a box is at least as wide as it is high
abbrev pub is_wide : Mark → Bool
is_wide mark = int_le (mark.north -ℤ mark.south) (mark.east -ℤ mark.west)
