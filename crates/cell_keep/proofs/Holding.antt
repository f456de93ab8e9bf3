-- Points that are held, by their places in the order.
use Rattle.std.proofs.Common.{◌≡◌, ◌≢◌, ◌∙◌, ◌+◌, ◌<◌, ◌≤◌, ℕ, List, [], map, length, get_or, set, sym, ap, subst, ⊎_elim, arith}
use Rattle.std.specs.Prelude.{Contains}
use Rattle.std.proofs.lemmas.Bool.{cases_eq}
use Rattle.std.proofs.lemmas.List.{get_or-map, get_or-set_other, get_or-set_same, get_or_default, length-map, same_lists}
use Rattle.std.proofs.lemmas.List.Elements.{Contains-get_or}
use Rattle.cell_links.specs.Links.{IsLinked, Links, rows_of}
use Rattle.cell_links.proofs.Rows.{Apart, Contains-nil}
use Rattle.cell_keep.specs.declared.held.Held.{Held}
use Rattle.cell_keep.specs.declared.point.KeepPoint.{KeepPoint}
use Rattle.cell_keep.specs.Grid.{cell_of, list_of}
use Rattle.cell_keep.specs.Kept.{list_at, point_at, points_of, ArePlaced, KeysRise}
use Rattle.cell_keep.specs.Rows.{no_point}

pub held_length : (held : Held) → length (points_of held) ≡ length held.order.items
held_length held = length-map held.order.items (point_at held.points.items)

pub held_few : (held : Held) → ArePlaced held → length (points_of held) ≤ 65536
held_few held placed = omega (arith, placed.few, held_length held)

-- a row in the order has a point
pub row_below : (held : Held) → ArePlaced held → (i d : ℕ) → i < length held.order.items → get_or held.order.items i d < length held.points.items
row_below held placed i d below =
    omega (arith, placed.inside (get_or held.order.items i d) (Contains-get_or held.order.items i d below), placed.store)

-- the point at a place of the order
pub nth_point : (held : Held) → ArePlaced held → (i d : ℕ) (point : KeepPoint) → i < length held.order.items
    → point ≡ get_or held.points.items (get_or held.order.items i d) point → point ≡ get_or (points_of held) i point
nth_point held placed i d point below is =
    is ∙ (get_or_default held.points.items (get_or held.order.items i d) point no_point (row_below held placed i d below)
    ∙ sym (get_or-map (point_at held.points.items) held.order.items i d point below))

-- no rows in the order
module _ (held : Held) (empty : held.order.items ≡ []) where
  none_in_order : (row : ℕ) → Contains held.order.items row → ⊥
  none_in_order row there = Contains-nil row (subst (λ (l : List ℕ). Contains l row) empty there)

  pub none_placed : held.keys.items ≡ [] → held.links.rows ≡ 65536 → length held.links.lists ≡ 65536 → length held.points.items ≡ 65536 → ((row : ℕ) → IsLinked held.links row → ⊥) → ArePlaced held
  none_placed no_keys rows full store none = record {
    keys = no_keys ∙ sym (ap (λ (l : List ℕ). map (λ (point : KeepPoint). point.key) (map (point_at held.points.items) l)) empty);
    rows = rows;
    full = full;
    store = store;
    few = omega (arith, ap length empty);
    inside = λ row there. absurd (none_in_order row there);
    once = λ i j d order inside. absurd (omega (arith, inside, ap length empty));
    placed = λ row there. absurd (none_in_order row there);
    within = λ row linked. absurd (none row linked);
  }

  pub none_rise : KeysRise (points_of held)
  none_rise i j d order inside = absurd (omega (arith, inside, held_length held, ap length empty))

-- what is put into the rows of the order, place by place
module _ (held : Held) (new : List KeepPoint) (each : length held.order.items ≡ length new)
    (stored : (i : ℕ) → i < length new → point_at held.points.items (get_or held.order.items i 0) ≡ get_or new i no_point) where
  pub all_stored : points_of held ≡ new
  all_stored = same_lists (points_of held) new (held_length held ∙ each) (λ k d inside.
      let below : k < length new = omega (arith, inside, held_length held, each) in
      get_or-map (point_at held.points.items) held.order.items k 0 d (omega (arith, below, each)) ∙ (stored k below ∙ get_or_default new k no_point d below))

  pub all_placed : ((i : ℕ) → i < length new → Contains (rows_of held.links (list_of (cell_of (get_or new i no_point)))) (get_or held.order.items i 0))
      → (row : ℕ) → Contains held.order.items row → Contains (rows_of held.links (list_at held.points.items row)) row
  all_placed placed row there =
      let i = there.0 in
      let below : i < length new = omega (arith, there.1, each) in
      let is : get_or held.order.items i 0 ≡ row = get_or_default held.order.items i 0 row there.1 ∙ there.2 in
      let list : list_of (cell_of (get_or new i no_point)) ≡ list_at held.points.items row =
      ap (λ (point : KeepPoint). list_of (cell_of point)) (sym (stored i below)) ∙ ap (list_at held.points.items) is in
      subst (λ (r : ℕ). Contains (rows_of held.links (list_at held.points.items row)) r) is
      (subst (λ (l : ℕ). Contains (rows_of held.links l) (get_or held.order.items i 0)) list (placed i below))

-- ---- one point more is put into its row

module _ (new : List KeepPoint) (order : List ℕ) (j row : ℕ) (apart : Apart order) (below : j < length order) (is : row ≡ get_or order j 0) where
  -- the rows before are others
  others : (i : ℕ) → i < j → get_or order i 0 ≢ row
  others i before same = apart i j 0 before below (same ∙ is)

  pub stored_more : (points : List KeepPoint) (point : KeepPoint) → row < length points → point ≡ get_or new j no_point
      → ((i : ℕ) → i < j → point_at points (get_or order i 0) ≡ get_or new i no_point)
      → (i : ℕ) → i < j + 1 → point_at (set points row point) (get_or order i 0) ≡ get_or new i no_point
  stored_more points point inside read before i within = ⊎_elim
      (λ (same : i ≡ j). ap (λ (k : ℕ). point_at (set points row point) (get_or order k 0)) same
      ∙ (ap (point_at (set points row point)) (sym is) ∙ (get_or-set_same points row point no_point inside ∙ (read ∙ ap (λ (k : ℕ). get_or new k no_point) (sym same)))))
      (λ (away : i ≢ j). let less : i < j = omega (arith, within, away) in
      get_or-set_other points row (get_or order i 0) point no_point (others i less) ∙ before i less) (cases_eq i j)

  pub placed_more : (old links : Links) (list : ℕ) → list ≡ list_of (cell_of (get_or new j no_point)) → Contains (rows_of links list) row
      → ((other group : ℕ) → other ≢ row → Contains (rows_of old group) other → Contains (rows_of links group) other)
      → ((i : ℕ) → i < j → Contains (rows_of old (list_of (cell_of (get_or new i no_point)))) (get_or order i 0))
      → (i : ℕ) → i < j + 1 → Contains (rows_of links (list_of (cell_of (get_or new i no_point)))) (get_or order i 0)
  placed_more old links list told put stay before i within = ⊎_elim
      (λ (same : i ≡ j). subst (λ (k : ℕ). Contains (rows_of links (list_of (cell_of (get_or new k no_point)))) (get_or order k 0)) (sym same)
      (subst (λ (l : ℕ). Contains (rows_of links l) (get_or order j 0)) told (subst (Contains (rows_of links list)) is put)))
      (λ (away : i ≢ j). let less : i < j = omega (arith, within, away) in
      stay (get_or order i 0) (list_of (cell_of (get_or new i no_point))) (others i less) (before i less)) (cases_eq i j)
