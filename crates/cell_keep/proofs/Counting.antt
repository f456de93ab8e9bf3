-- The counted points of columns, of cells, and of the square around a circle.
use Rattle.std.proofs.Common.{◌≡◌, ◌∙◌, ◌+◌, ℕ, ℤ, pos, Bool, true, false, List, refl, sym, ap, arith}
use Rattle.std.proofs.lemmas.Bool.Decides.{Decides-int_eq}
use Rattle.std.proofs.lemmas.Int.{ints}
use Rattle.std.specs.Prelude.{◌+ℤ◌, ◌&&◌, ◌||◌, filter}
use Rattle.std.specs.Ordering.{int_eq}
use Rattle.std.proofs.lemmas.List.Elements.{filter_agree}
use Rattle.sgl_values.specs.Distance.{is_in_circle, square, squared_distance}
use Rattle.cell_keep.specs.declared.circle.Circle.{Circle}
use Rattle.cell_keep.specs.declared.span.Square.{Square}
use Rattle.cell_keep.specs.declared.point.Cell.{Cell}
use Rattle.cell_keep.specs.declared.point.Group.{Group}
use Rattle.cell_keep.specs.declared.point.KeepPoint.{KeepPoint}
use Rattle.cell_keep.specs.Circles.{joined, sums_of}
use Rattle.cell_keep.specs.Covers.{cell_above, foot, is_counted, is_counted_along, is_counted_before, is_counted_in, is_from, IsSquareOf}
use Rattle.cell_keep.specs.Grid.{cell_of, is_in_cell, is_same_cell, is_same_group, list_of, quotient}
use Rattle.cell_keep.proofs.Adding.{none_sums, parts_sums}
use Rattle.cell_keep.proofs.Measuring.{reaches}

-- ---- tests

and_left : (a b : Bool) → (a && b) ≡ true → a ≡ true
and_left true b h = refl
and_left false b h = h

and_right : (a b : Bool) → (a && b) ≡ true → b ≡ true
and_right true b h = h
and_right false b h = absurd (never h)
  where
    never : false ≡ true → ⊥
    never e = cc

and_keeps : (a b : Bool) → (a ≡ true → b ≡ true) → (a && b) ≡ a
and_keeps true b h = h refl
and_keeps false b h = refl

-- ---- the cell that a test tells

same_group : (g h : Group) → is_same_group g h ≡ true → g ≡ h
same_group g h same =
    let first = (Decides-int_eq g.a h.a).0 (and_left (int_eq g.a h.a) (int_eq g.b h.b && (int_eq g.c h.c && int_eq g.d h.d)) same) in
    let others = and_right (int_eq g.a h.a) (int_eq g.b h.b && (int_eq g.c h.c && int_eq g.d h.d)) same in
    let second = (Decides-int_eq g.b h.b).0 (and_left (int_eq g.b h.b) (int_eq g.c h.c && int_eq g.d h.d) others) in
    let last = and_right (int_eq g.b h.b) (int_eq g.c h.c && int_eq g.d h.d) others in
    let third = (Decides-int_eq g.c h.c).0 (and_left (int_eq g.c h.c) (int_eq g.d h.d) last) in
    let fourth = (Decides-int_eq g.d h.d).0 (and_right (int_eq g.c h.c) (int_eq g.d h.d) last) in
    ap (λ (z : ℤ). group z g.b g.c g.d) first ∙ ap (λ (z : ℤ). group h.a z g.c g.d) second
    ∙ ap (λ (z : ℤ). group h.a h.b z g.d) third ∙ ap (λ (z : ℤ). group h.a h.b h.c z) fourth
  where
    group : ℤ → ℤ → ℤ → ℤ → Group
    group a b c d = record { a = a; b = b; c = c; d = d }

abbrev made_cell : Group → ℤ → ℤ → Cell
made_cell g x y = record { group = g; cx = x; cy = y }

-- cells that the test takes for the same are the same
pub same_cell : (c d : Cell) → is_same_cell c d ≡ true → c ≡ d
same_cell c d same =
    let places = and_right (is_same_group c.group d.group) (int_eq c.cx d.cx && int_eq c.cy d.cy) same in
    ap (λ (g : Group). made_cell g c.cx c.cy) (same_group c.group d.group (and_left (is_same_group c.group d.group) (int_eq c.cx d.cx && int_eq c.cy d.cy) same))
    ∙ ap (λ (z : ℤ). made_cell d.group z c.cy) ((Decides-int_eq c.cx d.cx).0 (and_left (int_eq c.cx d.cx) (int_eq c.cy d.cy) places))
    ∙ ap (λ (z : ℤ). made_cell d.group d.cx z) ((Decides-int_eq c.cy d.cy).0 (and_right (int_eq c.cx d.cx) (int_eq c.cy d.cy) places))

-- the points in a cell stand in its list
pub cell_list : (cell : Cell) (list : ℕ) → list ≡ list_of cell → (point : KeepPoint) → is_in_cell cell point ≡ true → list_of (cell_of point) ≡ list
cell_list cell list is point passes = ap list_of (same_cell (cell_of point) cell passes) ∙ sym is

pub counted_list : (circle : Circle) (cell : Cell) (list : ℕ) → list ≡ list_of cell → (point : KeepPoint) → is_counted_in circle cell point ≡ true
    → list_of (cell_of point) ≡ list
counted_list circle cell list is point passes = cell_list cell list is point (and_right (is_counted circle point) (is_in_cell cell point) passes)

-- ---- one number more

from_more : (first : ℤ) (n : ℕ) (z : ℤ) → is_from first (n + 1) z ≡ (is_from first n z || int_eq z (first +ℤ pos n))
from_more first n z = grind (arith, ints)

from_apart : (first : ℤ) (n : ℕ) (z : ℤ) → (is_from first n z && int_eq z (first +ℤ pos n)) ≡ false
from_apart first n z = grind (arith, ints)

from_none : (first z : ℤ) → is_from first 0 z ≡ false
from_none first z = grind (arith, ints)

-- a test that is split within others
split_test : (a g x f e : Bool) (h : Bool) → h ≡ (f || e) → (a && (g && (x && h))) ≡ ((a && (g && (x && f))) || (a && (g && (x && e))))
split_test true true true f e h is = is
split_test true true false f e h is = refl
split_test true false x f e h is = refl
split_test false g x f e h is = refl

apart_test : (a g x f e : Bool) → (f && e) ≡ false → ((a && (g && (x && f))) && (a && (g && (x && e)))) ≡ false
apart_test true true true f e apart = apart
apart_test true true false f e apart = refl
apart_test true false x f e apart = refl
apart_test false g x f e apart = refl

split_outer : (a f g h x : Bool) → h ≡ (f || g) → (a && (h && x)) ≡ ((a && (f && x)) || (a && (g && x)))
split_outer true true g h x is = ap (λ (b : Bool). b && x) is ∙ or_same x g
  where
    or_same : (x g : Bool) → x ≡ (x || (g && x))
    or_same true g = refl
    or_same false true = refl
    or_same false false = refl
split_outer true false g h x is = ap (λ (b : Bool). b && x) is
split_outer false f g h x is = refl

apart_outer : (a f g x : Bool) → (f && g) ≡ false → ((a && (f && x)) && (a && (g && x))) ≡ false
apart_outer true true true x apart = absurd (never apart)
  where
    never : true ≡ false → ⊥
    never e = cc
apart_outer true true false true apart = refl
apart_outer true true false false apart = refl
apart_outer true false g x apart = refl
apart_outer false f g x apart = refl

module _ (circle : Circle) (points : List KeepPoint) where
  -- one cell more in a column
  pub column_more : (lowest : Cell) (n : ℕ) → sums_of (filter (is_counted_along circle lowest (n + 1)) points)
      ≡ joined (sums_of (filter (is_counted_along circle lowest n) points)) (sums_of (filter (is_counted_in circle (cell_above lowest n)) points))
  column_more lowest n =
      parts_sums (is_counted_along circle lowest n) (is_counted_in circle (cell_above lowest n)) (is_counted_along circle lowest (n + 1))
      (λ point. split_test (is_counted circle point) (is_same_group point.group lowest.group) (int_eq (quotient point.x) lowest.cx)
      (is_from lowest.cy n (quotient point.y)) (int_eq (quotient point.y) (lowest.cy +ℤ pos n)) (is_from lowest.cy (n + 1) (quotient point.y)) (from_more lowest.cy n (quotient point.y)))
      (λ point. apart_test (is_counted circle point) (is_same_group point.group lowest.group) (int_eq (quotient point.x) lowest.cx)
      (is_from lowest.cy n (quotient point.y)) (int_eq (quotient point.y) (lowest.cy +ℤ pos n)) (from_apart lowest.cy n (quotient point.y)))
      points

  pub column_none : (lowest : Cell) → sums_of (filter (is_counted_along circle lowest 0) points) ≡ record { count = 0; sum = pos 0 }
  column_none lowest = none_sums (is_counted_along circle lowest 0)
      (λ point. none (is_counted circle point) (is_same_group point.group lowest.group) (int_eq (quotient point.x) lowest.cx) (is_from lowest.cy 0 (quotient point.y)) (from_none lowest.cy (quotient point.y))) points
    where
      none : (a g x f : Bool) → f ≡ false → (a && (g && (x && f))) ≡ false
      none true true true f is = is
      none true true false f is = refl
      none true false x f is = refl
      none false g x f is = refl

  -- a counted point is of the circle's group, so the test of a column's group says nothing more
  along_foot : (square : Square) (n : ℕ) (point : KeepPoint) → is_counted_along circle (foot circle square n) square.up.count point
      ≡ (is_counted circle point && (int_eq (quotient point.x) (square.across.first +ℤ pos n) && is_from square.up.first square.up.count (quotient point.y)))
  along_foot square n point =
      once (is_same_group point.group circle.group) (is_in_circle circle.radius (squared_distance circle.x circle.y point.x point.y))
      (int_eq (quotient point.x) (square.across.first +ℤ pos n) && is_from square.up.first square.up.count (quotient point.y))
    where
      once : (g c x : Bool) → ((g && c) && (g && x)) ≡ ((g && c) && x)
      once true c x = refl
      once false c x = refl

  -- one column more in a square
  pub square_more : (square : Square) (n : ℕ) → sums_of (filter (is_counted_before circle square (n + 1)) points)
      ≡ joined (sums_of (filter (is_counted_before circle square n) points)) (sums_of (filter (is_counted_along circle (foot circle square n) square.up.count) points))
  square_more square n =
      let west = square.across.first in
      let along = λ (point : KeepPoint). is_from square.up.first square.up.count (quotient point.y) in
      let column = λ (point : KeepPoint). is_counted circle point && (int_eq (quotient point.x) (west +ℤ pos n) && along point) in
      parts_sums (is_counted_before circle square n) column (is_counted_before circle square (n + 1))
      (λ point. split_outer (is_counted circle point) (is_from west n (quotient point.x)) (int_eq (quotient point.x) (west +ℤ pos n)) (is_from west (n + 1) (quotient point.x)) (along point)
      (from_more west n (quotient point.x)))
      (λ point. apart_outer (is_counted circle point) (is_from west n (quotient point.x)) (int_eq (quotient point.x) (west +ℤ pos n)) (along point) (from_apart west n (quotient point.x)))
      points
      ∙ ap (λ l. joined (sums_of (filter (is_counted_before circle square n) points)) (sums_of l))
      (sym (filter_agree (is_counted_along circle (foot circle square n) square.up.count) column (along_foot square n) points))

  pub square_none : (square : Square) → sums_of (filter (is_counted_before circle square 0) points) ≡ record { count = 0; sum = pos 0 }
  square_none square = none_sums (is_counted_before circle square 0)
      (λ point. none (is_counted circle point) (is_from square.across.first 0 (quotient point.x)) (is_from square.up.first square.up.count (quotient point.y)) (from_none square.across.first (quotient point.x))) points
    where
      none : (a f x : Bool) → f ≡ false → (a && (f && x)) ≡ false
      none true f x is = ap (λ (b : Bool). b && x) is
      none false f x is = refl

  -- each counted point is in a cell of the square
  pub square_all : (square : Square) → IsSquareOf circle square → filter (is_counted_before circle square square.across.count) points ≡ filter (is_counted circle) points
  square_all square is =
      filter_agree (is_counted_before circle square square.across.count) (is_counted circle)
      (λ point. and_keeps (is_counted circle point) (is_from square.across.first square.across.count (quotient point.x) && is_from square.up.first square.up.count (quotient point.y))
      (λ passes. reaches circle.x circle.y circle.radius point.x point.y square.across square.up is.0 is.1
      (and_right (is_same_group point.group circle.group) (is_in_circle circle.radius (squared_distance circle.x circle.y point.x point.y)) passes)))
      points
