use Rattle.std.proofs.Common.{◌≡◌, ◌∙◌, ◌<◌, ℕ, List, Result, Some, Ok, Err, ap, arith, get_or, length, rules, sym, subst}
use Rattle.std.specs.Ordering.{nat_cmp}
use Rattle.std.specs.List.Sorted.{IsBinarySearchResult}
use Rattle.std.proofs.lemmas.List.{get_or_default}
use Rattle.std.proofs.lemmas.Fn.{always_returns_same}
use Rattle.cell_keep.specs.declared.held.Held.{Held}
use Rattle.cell_keep.specs.declared.point.KeepPoint.{KeepPoint}
use Rattle.cell_keep.specs.Grid.{cell_of}
use Rattle.cell_keep.specs.Kept.{point_at, points_of}
use Rattle.cell_keep.specs.Rows.{no_point}
use Rattle.cell_keep.proofs.Halving.{searched}
use Rattle.cell_keep.proofs.Holding.{held_length, nth_point, row_below}
use Rattle.cell_keep.proofs.finding.cell_with.Goals as goal

-- what halving tells of slices it tells of what is held
of_held : (held : Held) (key : ℕ) (points : List KeepPoint) (order : List ℕ) (found : Result ℕ ℕ) → points ≡ held.points.items → order ≡ held.order.items
    → IsBinarySearchResult (λ (row : ℕ). nat_cmp (point_at points row).key key) order found
    → IsBinarySearchResult (λ (row : ℕ). nat_cmp (point_at held.points.items row).key key) held.order.items found
of_held held key points order found points_are order_is told =
    subst (λ (l : List ℕ). IsBinarySearchResult (λ (row : ℕ). nat_cmp (point_at held.points.items row).key key) l found) order_is
    (subst (λ (l : List KeepPoint). IsBinarySearchResult (λ (row : ℕ). nat_cmp (point_at l row).key key) order found) points_are told)

pub bounds-points-order : goal.bounds-points-order
bounds-points-order c =
    let held = c.args.held.now in
    let i = c.in-Ok.place in
    let below : i < length held.order.items = omega (arith, c.in-Ok.ensures.bound, ap length c.as_slice-order.ensures.value) in
    omega (arith, row_below held c.requires.placed i 0 below, ap (λ (l : List ℕ). get_or l i 0) c.as_slice-order.ensures.value, ap length c.as_slice-points.ensures.value)

pub returns-in-Ok : goal.returns-in-Ok
returns-in-Ok c =
    let held = c.args.held.now in
    let items = held.order.items in
    let at = point_at held.points.items in
    let i = c.in-Ok.place in
    let point = c.index-points-order.result in
    let order = c.as_slice-order.result.now in
    let by_key = of_held held c.args.key c.as_slice-points.result.now order (Ok i) c.as_slice-points.ensures.value c.as_slice-order.ensures.value
    (c.in-Ok.ensures.position (λ (row : ℕ). (point_at c.as_slice-points.result.now row).key) (always_returns_same _ _ _ (λ a r g called. search rules))) in
    let below : i < length items = omega (arith, c.in-Ok.ensures.bound, ap length c.as_slice-order.ensures.value) in
    let found = searched at items c.requires.rising c.args.key (Ok i) below by_key in
    let read : point ≡ get_or held.points.items (get_or items i 0) point =
    c.index-points-order.is ∙ (ap (λ (l : List KeepPoint). get_or l (get_or order i 0) point) c.as_slice-points.ensures.value
    ∙ ap (λ (l : List ℕ). get_or held.points.items (get_or l i 0) point) c.as_slice-order.ensures.value) in
    let nth : point ≡ get_or (points_of held) i no_point =
    nth_point held c.requires.placed i 0 point below read ∙ get_or_default (points_of held) i point no_point (omega (arith, below, held_length held)) in
    ap Some (c.cell_of.ensures ∙ ap cell_of nth) ∙ sym found.1

pub returns-in-Err : goal.returns-in-Err
returns-in-Err c =
    let held = c.args.held.now in
    let items = held.order.items in
    let at = point_at held.points.items in
    let i = c.in-Err.field-0 in
    let by_key = of_held held c.args.key c.as_slice-points.result.now c.as_slice-order.result.now (Err i) c.as_slice-points.ensures.value c.as_slice-order.ensures.value
    (c.in-Err.ensures.position (λ (row : ℕ). (point_at c.as_slice-points.result.now row).key) (always_returns_same _ _ _ (λ a r g called. search rules))) in
    sym (searched at items c.requires.rising c.args.key (Err i) (omega (arith, c.in-Err.ensures.bound, ap length c.as_slice-order.ensures.value)) by_key)
