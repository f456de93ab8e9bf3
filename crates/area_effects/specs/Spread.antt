-- The spread of a point: the exact sum of the amounts, and the number, of the boxes with x1 <= x <= x2 and y1 <= y <= y2.
use Rattle.std.specs.Prelude.{ℕ, ℤ, pos, ◌+ℤ◌, ◌&&◌, Bool, List, length, filter}
use Rattle.sgl_values.specs.Range.{is_between}
use Rattle.sgl_values.specs.Totals.{total}
use Rattle.area_effects.specs.declared.area_box.AreaBox.{AreaBox}
use Rattle.area_effects.specs.declared.point.AreaPoint.{AreaPoint}

-- the point lies in the box, whose edges belong to it
abbrev pub is_inside : AreaPoint → AreaBox → Bool
is_inside point area = is_between area.x1 area.x2 point.x && is_between area.y1 area.y2 point.y

-- the boxes that a point lies in
abbrev pub around : List AreaBox → AreaPoint → List AreaBox
around boxes point = filter (is_inside point) boxes

-- the exact sum of their amounts
abbrev pub sum_at : List AreaBox → AreaPoint → ℤ
sum_at boxes point = total ◌+ℤ◌ (pos 0) (λ area. area.amount) (around boxes point)

-- their number
abbrev pub count_at : List AreaBox → AreaPoint → ℕ
count_at boxes point = length (around boxes point)
