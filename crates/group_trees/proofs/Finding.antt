-- What a tree tells is the first of the rows that pass, by their distance and then by key.
use Rattle.std.proofs.Common.{◌≡◌, ℤ, pos, Bool, true, false, ◌&&◌, cond, List, [], ◌∷◌, map, Option, None, Some, refl, ap, sym, ◌∙◌}
use Rattle.std.specs.Prelude.{filter}
use Rattle.std.specs.Cmp.Lexicographic.{pointwise}
use Rattle.std.specs.List.{list_any}
use Rattle.std.specs.Option.{option_map}
use Rattle.std.specs.Ordering.{int_eq, is_gt}
use Rattle.std.specs.declared.cmp.Ordering.{Ordering}
use Rattle.std.proofs.lemmas.Bool.{and_parts, not-true, or_parts}
use Rattle.std.proofs.lemmas.List.Elements.{filter_agree}
use Rattle.sgl_values.specs.Least.{least_of, lesser_of}
use Rattle.sgl_values.specs.World.{Row}
use Rattle.sgl_typed.specs.Aggregate.{distance_cmp, found_or}
use Rattle.sgl_typed.specs.Value.{Context, attribute}
use Rattle.sgl_typed.specs.declared.script.Attr.TheVariants.{Key}
use Rattle.sgl_typed.specs.declared.script.TAgg.{TAgg}
use Rattle.sgl_typed.specs.declared.script.TTest.{TTest}
use Rattle.sgl_evaluate.specs.Rights.{passes_each, right_of}
use Rattle.battle_algebra.specs.Ways.{covered, few_groups, is_range_test, is_unbounded}
use Rattle.nearest_tree.specs.declared.point.NearPoint.{NearPoint}
use Rattle.nearest_tree.specs.Nearest.{is_other_than, near_cmp, near_of, nearest_of}
use Rattle.nearest_tree.specs.Laws.{NearestIgnoresOrder}
use Rattle.range_aggregate.proofs.Slices.{filter_both}
use Rattle.row_groups.specs.Keys.{four_of, has_key}
use Rattle.row_groups.proofs.Filters.{filter-map, map-map}
use Rattle.test_boxes.specs.declared.reading.Reading.TheVariants.{Away}
use Rattle.test_boxes.specs.Others.{is_unlike, other_asked}
use Rattle.test_boxes.specs.Ranges.{passes_along}
use Rattle.test_boxes.specs.Readings.{grouping, passes_read, row_key}
use Rattle.test_boxes.proofs.Boxing.{boxed}
use Rattle.test_boxes.proofs.Grouped.{keyed, other_is}
use Rattle.test_boxes.proofs.Shapes.{four_group, one_unequal}
use Rattle.test_boxes.proofs.TakenOff.{each_read, plain_is}
use Rattle.group_trees.specs.declared.plane.Plane.{Plane}
use Rattle.group_trees.specs.Nearby.{key_or, plane_of, AreTreesOf}
use Rattle.group_trees.specs.Points.{point_of, points_under, Planted}

-- ---- the least of what is made of a list

module _ {A B : Type 0} (cmp : B → B → Ordering) (f : A → B) where
  lesser-map : (x : A) (rest : Option A) → lesser_of cmp (Some (f x)) (option_map f rest) ≡ option_map f (lesser_of (λ a b. cmp (f a) (f b)) (Some x) rest)
  lesser-map x None = refl
  lesser-map x (Some y) = by (is_gt (cmp (f x) (f y)))
    where
      by : (b : Bool) → cond b (Some (f y)) (Some (f x)) ≡ option_map f (cond b (Some y) (Some x))
      by true = refl
      by false = refl

  least-map : (xs : List A) → least_of cmp (map f xs) ≡ option_map f (least_of (λ a b. cmp (f a) (f b)) xs)
  least-map [] = refl
  least-map (x ∷ xs) = ap (lesser_of cmp (Some (f x))) (least-map xs) ∙ lesser-map x (least_of (λ a b. cmp (f a) (f b)) xs)

-- ---- tests without a range

no-ranges : (tests : List TTest) → list_any is_range_test tests ≡ false → covered None None tests ≡ true
no-ranges [] none = refl
no-ranges (test ∷ tests) none =
    let parts = or_parts (is_range_test test) (list_any is_range_test tests) none in
    rw (parts.0, no-ranges tests parts.1) refl

along-none : (right : TTest → ℤ) (tests : List TTest) (v : ℤ) → passes_along None right tests v ≡ true
along-none right [] v = refl
along-none right (test ∷ tests) v = along-none right tests v

and-trues : (b p q : Bool) → p ≡ true → q ≡ true → (b && (p && q)) ≡ b
and-trues true p q hp hq = rw (hp, hq) refl
and-trues false p q hp hq = refl

-- without the unequal test a row passes where its key is the one asked for
key-passes : (right : TTest → ℤ) (tests : List TTest) (row : Row) → is_unbounded tests ≡ true
    → passes_read Away right tests row ≡ pointwise int_eq (row_key (grouping Away tests) row) (map right (grouping Away tests))
key-passes right tests row unbounded =
    boxed Away right tests row None None refl (no-ranges tests (not-true _ (and_parts _ _ unbounded).0))
    ∙ and-trues (pointwise int_eq (row_key (grouping Away tests) row) (map right (grouping Away tests)))
    (passes_along None right tests (pos 0)) (passes_along None right tests (pos 0)) (along-none right tests (pos 0)) (along-none right tests (pos 0))

-- ---- the unequal test

-- a point is another than those that are left out where its value is
other-point : (other : Option ℤ) (point : NearPoint) → is_other_than other point ≡ is_unlike other point.group
other-point None point = refl
other-point (Some group) point = refl

-- ---- the nearest

key-found : (otherwise x y : ℤ) (plane : Plane) (o : Option Row) → key_or otherwise (option_map (λ row. near_of x y (point_of plane row)) o) ≡ found_or Key otherwise o
key-found otherwise x y plane None = refl
key-found otherwise x y plane (Some row) = refl

module _ (ignores_order : NearestIgnoresOrder) (trees : Planted) (agg : TAgg) (c : Context) (few : few_groups agg.tests ≡ true) (unbounded : is_unbounded agg.tests ≡ true) (are : AreTreesOf trees agg c.world.rows) where
  abbrev pub right : TTest → ℤ
  right = right_of c

  abbrev pub key : List ℤ
  key = four_of (map right (grouping Away agg.tests))

  -- the row has the key that is asked for
  member : (row : Row) → has_key trees.groups.attrs key row ≡ passes_read Away right agg.tests row
  member row =
      ap (λ attrs. has_key attrs key row) are.by
      ∙ keyed Away right agg.tests row (four_group Away agg.tests few)
      ∙ sym (key-passes right agg.tests row unbounded)

  -- and its point is none of those that are left out
  row-passes : (row : Row) → passes_each c agg.tests row
      ≡ (has_key trees.groups.attrs key row && is_other_than (other_asked right agg.tests) (point_of trees.plane row))
  row-passes row =
      each_read c agg.tests row (not-true _ (and_parts _ _ unbounded).1)
      ∙ plain_is right agg.tests row
      ∙ (λ i. sym (member row) i && (other_is right agg.tests row (one_unequal agg.tests few)
      ∙ sym (other-point (other_asked right agg.tests) (point_of (plane_of agg) row))
      ∙ ap (λ plane. is_other_than (other_asked right agg.tests) (point_of plane row)) (sym are.plane)) i)

  kept : filter (is_other_than (other_asked right agg.tests)) (map (point_of trees.plane) (filter (has_key trees.groups.attrs key) c.world.rows))
      ≡ map (point_of trees.plane) (filter (passes_each c agg.tests) c.world.rows)
  kept =
      filter-map (point_of trees.plane) (is_other_than (other_asked right agg.tests)) (filter (has_key trees.groups.attrs key) c.world.rows)
      ∙ ap (map (point_of trees.plane))
      (sym (filter_both (has_key trees.groups.attrs key) (λ row. is_other_than (other_asked right agg.tests) (point_of trees.plane row)) c.world.rows)
      ∙ sym (filter_agree _ _ row-passes c.world.rows))

  abbrev pub x : ℤ
  x = attribute agg.attr c.unit

  abbrev pub y : ℤ
  y = attribute agg.second c.unit

  -- the least of the points is that of the rows that pass
  least : nearest_of x y (other_asked right agg.tests) (points_under trees key)
      ≡ option_map (λ row. near_of x y (point_of (plane_of agg) row)) (least_of (distance_cmp agg.attr agg.second c.unit) (filter (passes_each c agg.tests) c.world.rows))
  least =
      sym (ignores_order x y (other_asked right agg.tests) _ (points_under trees key) (are.held key))
      ∙ ap (λ points. least_of near_cmp (map (near_of x y) points)) kept
      ∙ ap (least_of near_cmp) (map-map (point_of trees.plane) (near_of x y) (filter (passes_each c agg.tests) c.world.rows))
      ∙ ap (λ plane. least_of near_cmp (map (λ row. near_of x y (point_of plane row)) (filter (passes_each c agg.tests) c.world.rows))) are.plane
      ∙ least-map near_cmp (λ row. near_of x y (point_of (plane_of agg) row)) (filter (passes_each c agg.tests) c.world.rows)

  pub nearest-found : key_or agg.otherwise (nearest_of x y (other_asked right agg.tests) (points_under trees key))
      ≡ found_or Key agg.otherwise (least_of (distance_cmp agg.attr agg.second c.unit) (filter (passes_each c agg.tests) c.world.rows))
  nearest-found = ap (key_or agg.otherwise) least ∙ key-found agg.otherwise x y (plane_of agg) (least_of (distance_cmp agg.attr agg.second c.unit) (filter (passes_each c agg.tests) c.world.rows))
