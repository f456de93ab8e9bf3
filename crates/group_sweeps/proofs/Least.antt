-- The least pair of a window of rows is that of the least row in it.
use Rattle.std.proofs.Common.{◌≡◌, ℤ, neg_ℤ, Bool, true, false, ◌&&◌, cond, List, [], ◌∷◌, map, Option, Some, None, refl, ap, sym, ◌∙◌, arith}
use Rattle.std.specs.Prelude.{filter}
use Rattle.std.specs.Option.{option_map}
use Rattle.std.specs.Ordering.{int_cmp, nat_cmp, is_gt, ordering_then}
use Rattle.std.specs.declared.cmp.Ordering.{Ordering}
use Rattle.std.proofs.lemmas.Int.{ints}
use Rattle.sgl_values.specs.Least.{least_of, lesser_of}
use Rattle.sgl_values.specs.World.{Row}
use Rattle.sgl_typed.specs.declared.script.Attr.{Attr}
use Rattle.sgl_typed.specs.Value.{attribute}
use Rattle.range_aggregate.proofs.Slices.{filter_both}
use Rattle.extreme_sweep.specs.declared.pair.Entry.{Entry}
use Rattle.extreme_sweep.specs.declared.window.SweepPoint.{SweepPoint}
use Rattle.extreme_sweep.specs.declared.window.Window.{Window}
use Rattle.extreme_sweep.specs.Pairs.{pair_cmp, is_other_than}
use Rattle.extreme_sweep.specs.Windows.{is_inside, least_inside}
use Rattle.group_sweeps.specs.declared.sides.Sides.{Sides}
use Rattle.group_sweeps.specs.Extremes.{order_of, pair_of, sweep_point}
use Rattle.row_groups.proofs.Filters.{filter-map, map-map}

-- ---- the order of rows and that of their pairs

turned-cmp : (a b : ℤ) → int_cmp (neg_ℤ a) (neg_ℤ b) ≡ int_cmp b a
turned-cmp a b = grind (arith, ints)

pair-order : (falling : Bool) (attr : Attr) (r s : Row) → pair_cmp (pair_of falling attr r) (pair_of falling attr s) ≡ order_of falling attr r s
pair-order false attr r s = refl
pair-order true attr r s = ap (λ o. ordering_then o (nat_cmp r.key s.key)) (turned-cmp (attribute attr r) (attribute attr s))

module _ {A B : Type 0} (f : A → B) (cmp : A → A → Ordering) (by : B → B → Ordering) (same : (r s : A) → by (f r) (f s) ≡ cmp r s) where
  lesser-map : (x : A) (o : Option A) → lesser_of by (Some (f x)) (option_map f o) ≡ option_map f (lesser_of cmp (Some x) o)
  lesser-map x None = refl
  lesser-map x (Some y) = ap (λ c. cond (is_gt c) (Some (f y)) (Some (f x))) (same x y) ∙ choice (is_gt (cmp x y))
    where
      choice : (b : Bool) → cond b (Some (f y)) (Some (f x)) ≡ option_map f (cond b (Some y) (Some x))
      choice true = refl
      choice false = refl

  least-map : (xs : List A) → least_of by (map f xs) ≡ option_map f (least_of cmp xs)
  least-map [] = refl
  least-map (x ∷ xs) = ap (lesser_of by (Some (f x))) (least-map xs) ∙ lesser-map x (least_of cmp xs)

-- ---- a window

-- the point of the row is in the window, and of another group than the one that is left out
abbrev pub is_seen : Sides → Window → Row → Bool
is_seen sides w row = is_inside w (sweep_point sides row) && is_other_than w.other_than (sweep_point sides row).entry

pub window_rows : (sides : Sides) (rows : List Row) (w : Window)
    → least_inside (map (sweep_point sides) rows) w ≡ option_map (pair_of sides.falling sides.attr) (least_of (order_of sides.falling sides.attr) (filter (is_seen sides w) rows))
window_rows sides rows w =
    let inside = filter (λ (row : Row). is_inside w (sweep_point sides row)) rows in
    ap (λ ps. least_of pair_cmp (map (λ (e : Entry). e.pair) (filter (is_other_than w.other_than) (map (λ (p : SweepPoint). p.entry) ps)))) (filter-map (sweep_point sides) (is_inside w) rows)
    ∙ ap (λ es. least_of pair_cmp (map (λ (e : Entry). e.pair) (filter (is_other_than w.other_than) es))) (map-map (sweep_point sides) (λ (p : SweepPoint). p.entry) inside)
    ∙ ap (λ es. least_of pair_cmp (map (λ (e : Entry). e.pair) es)) (filter-map (λ (row : Row). (sweep_point sides row).entry) (is_other_than w.other_than) inside)
    ∙ ap (least_of pair_cmp)
    (map-map (λ (row : Row). (sweep_point sides row).entry) (λ (e : Entry). e.pair) (filter (λ (row : Row). is_other_than w.other_than (sweep_point sides row).entry) inside))
    ∙ ap (λ rs. least_of pair_cmp (map (pair_of sides.falling sides.attr) rs))
    (sym (filter_both (λ row. is_inside w (sweep_point sides row)) (λ row. is_other_than w.other_than (sweep_point sides row).entry) rows))
    ∙ least-map (pair_of sides.falling sides.attr) (order_of sides.falling sides.attr) pair_cmp (pair-order sides.falling sides.attr) (filter (is_seen sides w) rows)
