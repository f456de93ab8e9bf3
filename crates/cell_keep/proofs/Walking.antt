-- The steps of a walk along the rows of a list, and of sums along it.
use Rattle.std.proofs.Common.{◌≡◌, ◌∙◌, ◌<◌, ℕ, Bool, true, false, cond, map, List, [], ◌∷◌, Option, Some, None, length, get_or, sym, ap, subst, arith}
use Rattle.std.specs.Prelude.{All, MatchOption, filter, slice_get}
use Rattle.std.proofs.lemmas.List.Elements.{All-head, All-nil, All-tail}
use Rattle.std.proofs.lemmas.Option.{get_or_from_slice_get, slice_get_within}
use Rattle.cell_links.specs.Links.{IsLinked, IsLinks, Links, rows_of}
use Rattle.cell_links.proofs.Rows.{All-from_Contains}
use Rattle.cell_keep.specs.declared.point.KeepPoint.{KeepPoint}
use Rattle.cell_keep.specs.declared.point.Sums.{Sums}
use Rattle.cell_keep.specs.Circles.{joined, sums_of}
use Rattle.cell_keep.specs.Rows.{no_point, points_at}
use Rattle.std.specs.List.Sorted.{IsPermutation}
use Rattle.std.proofs.lemmas.List.{get_or_default}
use Rattle.cell_keep.specs.declared.point.Cell.{Cell}
use Rattle.cell_keep.specs.Grid.{cell_of, is_in_cell, keys_in, list_of}
use Rattle.cell_keep.specs.declared.held.Held.{Held}
use Rattle.cell_keep.specs.Kept.{points_of, ArePlaced}
use Rattle.cell_keep.proofs.Adding.{first_sums, joined-assoc, sums-IsPermutation}
use Rattle.cell_keep.proofs.Members.{list_members, row_inside}

-- a row at a place of a list is in a list
pub linked_at : (links : Links) (list place row : ℕ) → slice_get (rows_of links list) place ≡ Some row → IsLinked links row
linked_at links list place row at =
    (list, (place, slice_get_within (rows_of links list) place row at, get_or_from_slice_get (rows_of links list) place row row at))

-- one row more is counted
pub row_counted : (test : KeepPoint → Bool) (points : List KeepPoint) (rows rest : List ℕ) (row : ℕ) (old new total : Sums) (passes : Bool) (point : KeepPoint)
    → rows ≡ row ∷ rest → point ≡ get_or points row no_point → passes ≡ test point → new ≡ joined old (sums_of (cond passes (point ∷ []) []))
    → joined old (sums_of (filter test (points_at points rows))) ≡ total → joined new (sums_of (filter test (points_at points rest))) ≡ total
row_counted test points rows rest row old new total passes point step is tested added before =
    let p = get_or points row no_point in
    let others = filter test (points_at points rest) in
    let same : passes ≡ test p = tested ∙ ap test is in
    let one : sums_of (cond passes (point ∷ []) []) ≡ sums_of (cond (test p) (p ∷ []) []) =
    ap (λ (b : Bool). sums_of (cond b (point ∷ []) [])) same ∙ ap (λ (q : KeepPoint). sums_of (cond (test p) (q ∷ []) [])) is in
    ap (λ (s : Sums). joined s (sums_of others)) (added ∙ ap (joined old) one)
    ∙ (joined-assoc old (sums_of (cond (test p) (p ∷ []) [])) (sums_of others)
    ∙ (ap (joined old) (sym (first_sums (test p) p others))
    ∙ (ap (λ (l : List ℕ). joined old (sums_of (filter test (points_at points l)))) (sym step) ∙ before)))

-- a walk along the whole list of a cell: its points are those that pass, in another order
module _ (held : Held) (placed : ArePlaced held) (are : IsLinks held.links) (list : ℕ) (rows : List ℕ) (all : rows ≡ rows_of held.links list) where
  pub rows_within : All (λ row. row < length held.points.items) rows
  rows_within =
      subst (All (λ (row : ℕ). row < length held.points.items)) (sym all)
      (All-from_Contains (λ row. row < length held.points.items) (rows_of held.links list) (λ row there. row_inside held placed are list row there))

  pub rows_members : (test : KeepPoint → Bool) → ((point : KeepPoint) → test point ≡ true → list_of (cell_of point) ≡ list)
      → IsPermutation (filter test (points_of held)) (filter test (points_at held.points.items rows))
  rows_members test alone =
      subst (λ (l : List ℕ). IsPermutation (filter test (points_of held)) (filter test (points_at held.points.items l))) (sym all) (list_members held placed are list test alone)

  pub rows_sums : (test : KeepPoint → Bool) → ((point : KeepPoint) → test point ≡ true → list_of (cell_of point) ≡ list)
      → sums_of (filter test (points_at held.points.items rows)) ≡ sums_of (filter test (points_of held))
  rows_sums test alone = sums-IsPermutation (filter test (points_of held)) (filter test (points_at held.points.items rows)) (rows_members test alone)

-- the first row of those that are left is within, and so are the others
pub first_within : (points : List KeepPoint) (rows rest : List ℕ) (row : ℕ) → rows ≡ row ∷ rest → All (λ r. r < length points) rows → row < length points
first_within points rows rest row is within = All-head (λ r. r < length points) row rest (subst (All (λ (r : ℕ). r < length points)) is within)

pub rest_within : (points : List KeepPoint) (rows rest : List ℕ) (row : ℕ) → rows ≡ row ∷ rest → All (λ r. r < length points) rows → All (λ r. r < length points) rest
rest_within points rows rest row is within = All-tail (λ r. r < length points) row rest (subst (All (λ (r : ℕ). r < length points)) is within)

-- ---- the keys of the points in a cell

module _ (cell : Cell) (points : List KeepPoint) (rows rest : List ℕ) (row : ℕ) (d : KeepPoint) (passes : Bool) (step : rows ≡ row ∷ rest) (inside : row < length points)
    (tested : passes ≡ is_in_cell cell (get_or points row d)) where
  default : get_or points row no_point ≡ get_or points row d
  default = get_or_default points row no_point d inside

  left : (b : Bool) → is_in_cell cell (get_or points row no_point) ≡ b
      → keys_in cell (points_at points rows) ≡ map (λ point. point.key) (cond b (get_or points row no_point ∷ filter (is_in_cell cell) (points_at points rest)) (filter (is_in_cell cell) (points_at points rest)))
  left b is =
      ap (λ (l : List ℕ). keys_in cell (points_at points l)) step
      ∙ ap (λ (v : Bool). map (λ (point : KeepPoint). point.key) (cond v (get_or points row no_point ∷ filter (is_in_cell cell) (points_at points rest)) (filter (is_in_cell cell) (points_at points rest)))) is

  -- a point in the cell is the first
  pub key_first : passes ≡ true → keys_in cell (points_at points rows) ≡ (get_or points row d).key ∷ keys_in cell (points_at points rest)
  key_first holds =
      left true (ap (is_in_cell cell) default ∙ (sym tested ∙ holds))
      ∙ ap (λ (point : KeepPoint). point.key ∷ keys_in cell (points_at points rest)) default

  -- a point of another cell is left out
  pub key_left_out : passes ≡ false → keys_in cell (points_at points rows) ≡ keys_in cell (points_at points rest)
  key_left_out fails = left false (ap (is_in_cell cell) default ∙ (sym tested ∙ fails))

pub shorter : (old new : List ℕ) (key : ℕ) → old ≡ key ∷ new → length new < length old
shorter old new key step = omega (arith, ap length step)

-- what is left after a step is within too
pub step_within : (points : List KeepPoint) (rows rest : List ℕ) (r : Option ℕ) → MatchOption r ((rows ≡ []) × (rest ≡ [])) (λ row. rows ≡ row ∷ rest)
    → All (λ row. row < length points) rows → All (λ row. row < length points) rest
step_within points rows rest None ends within = subst (All (λ (row : ℕ). row < length points)) (sym ends.1) (All-nil (λ row. row < length points))
step_within points rows rest (Some row) step within = rest_within points rows rest row step within
