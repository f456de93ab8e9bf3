-- The room for spreads, and the last spread.
use Rattle.std.specs.Prelude.{ℕ, ℤ, List, [], map}
use Rattle.area_effects.specs.declared.area_box.AreaBox.{AreaBox}
use Rattle.area_effects.specs.declared.point.AreaPoint.{AreaPoint}
use Rattle.area_effects.specs.Spread.{sum_at, count_at}

-- room for so many points and boxes, and the sum and the number of the boxes around each point of the last spread
pub record Work : Type 0 where
  pub points : ℕ
  pub boxes : ℕ
  pub sums : List ℤ
  pub counts : List ℕ

-- room, and no spread yet
abbrev pub empty_work : ℕ → ℕ → Work
empty_work points boxes = record { points = points; boxes = boxes; sums = []; counts = [] }

-- the spread of these points among these boxes takes the place of the last one
abbrev pub with_spread : Work → List AreaBox → List AreaPoint → Work
with_spread work boxes points = record work { sums = map (sum_at boxes) points; counts = map (count_at boxes) points }
