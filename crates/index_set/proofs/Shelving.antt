-- Shelves that grow.
use Rattle.std.proofs.Common.{◌≡◌, ℕ, zero, suc, List, [], ◌∷◌, ◌++◌, get_or, length, Option, None, Some, inl, inr, refl, ap, sym, ◌∙◌, subst}
use Rattle.std.specs.Prelude.{◌⊎◌, slice_get}
use Rattle.std.specs.Option.{option_map}
use Rattle.std.proofs.lemmas.Option.{get_or_from_slice_get}
use Rattle.sgl_values.specs.World.{Row}
use Rattle.sgl_typed.specs.declared.script.Attr.{Attr}
use Rattle.row_groups.specs.Groups.{Grouping, IsGroups}
use Rattle.group_boxes.specs.Points.{Indexed, IsBoxes}
use Rattle.group_boxes.specs.declared.axes.Axes.{Axes}
use Rattle.index_set.specs.declared.part.Part.{Part}
use Rattle.index_set.specs.declared.shelf.Shelf.{Shelf}
use Rattle.index_set.specs.Shelves.{Grows, HasGroups, IsOver, IsPart, IsShelf, Matches, boxes_on, with_boxes}

-- ---- lists with one more

module _ {A : Type 0} where
  same_some : (x y : A) → Some x ≡ Some y → x ≡ y
  same_some x y h = cc

  pub kept : (xs ys : List A) (n : ℕ) (x : A) → slice_get xs n ≡ Some x → slice_get (xs ++ ys) n ≡ Some x
  kept [] ys n x h = absurd (cc h)
  kept (z ∷ xs) ys zero x h = h
  kept (z ∷ xs) ys (suc n) x h = kept xs ys n x h

  pub last : (xs : List A) (x : A) → slice_get (xs ++ x ∷ []) (length xs) ≡ Some x
  last [] x = refl
  last (z ∷ xs) x = last xs x

  pub old_or_last : (xs : List A) (x : A) (n : ℕ) (y : A) → slice_get (xs ++ x ∷ []) n ≡ Some y → (slice_get xs n ≡ Some y) ⊎ (y ≡ x)
  old_or_last [] x zero y h = inr (sym (same_some x y h))
  old_or_last [] x (suc n) y h = absurd (cc h)
  old_or_last (z ∷ xs) x zero y h = inl h
  old_or_last (z ∷ xs) x (suc n) y h = old_or_last xs x n y h

-- the partition that was taken from a list is the one with its number
pub taken : (given partitions : List Grouping) (number : ℕ) (groups result : Grouping) → result ≡ get_or given number result → given ≡ partitions
    → slice_get partitions number ≡ Some groups → result ≡ groups
taken given partitions number groups result is same at =
    is ∙ ap (λ (xs : List Grouping). get_or xs number result) same ∙ get_or_from_slice_get partitions number groups result at

-- ---- more partitions

over_more : (partitions more : List Grouping) (part : Part) (rows : List Row) → IsOver partitions part rows → IsOver (partitions ++ more) part rows
over_more partitions more part rows over = record { groups = over.groups; at = kept partitions more part.groups over.groups over.at; held = over.held }

mapped_more : (partitions more : List Grouping) (boxes : Indexed) (n : ℕ) (pair : Grouping × Indexed) → option_map (with_boxes boxes) (slice_get partitions n) ≡ Some pair
    → option_map (with_boxes boxes) (slice_get (partitions ++ more) n) ≡ Some pair
mapped_more partitions more boxes n pair h = step (slice_get partitions n) refl h
  where
    step : (o : Option Grouping) → slice_get partitions n ≡ o → option_map (with_boxes boxes) o ≡ Some pair → option_map (with_boxes boxes) (slice_get (partitions ++ more) n) ≡ Some pair
    step None is h = absurd (cc h)
    step (Some groups) is h = ap (option_map (with_boxes boxes)) (kept partitions more n groups is) ∙ h

on_more : (partitions more : List Grouping) (o : Option Part) (pair : Grouping × Indexed) → boxes_on partitions o ≡ Some pair → boxes_on (partitions ++ more) o ≡ Some pair
on_more partitions more None pair h = h
on_more partitions more (Some part) pair h = mapped_more partitions more part.boxes part.groups pair h

abbrev partitioned : Shelf → Grouping → Shelf
partitioned shelf groups = record shelf { partitions = shelf.partitions ++ groups ∷ [] }

pub groups_grow : (shelf : Shelf) (groups : Grouping) → Grows shelf (partitioned shelf groups)
groups_grow shelf groups = record {
  groups = λ number found h. kept shelf.partitions (groups ∷ []) number found h;
  parts = λ number pair h. on_more shelf.partitions (groups ∷ []) (slice_get shelf.parts number) pair h;
}

pub groups_shelved : (shelf : Shelf) (groups : Grouping) (rows : List Row) → IsShelf shelf rows → IsGroups groups groups.attrs rows → IsShelf (partitioned shelf groups) rows
groups_shelved shelf groups rows stood of = record {
  groups = λ number found h. elim (old_or_last shelf.partitions groups number found h) [
    | inl old ↦ stood.groups number found old
    | inr same ↦ subst (λ (g : Grouping). IsGroups g g.attrs rows) (sym same) of
  ];
  parts = λ number part h. over_more shelf.partitions (groups ∷ []) part rows (stood.parts number part h);
}

pub groups_had : (shelf : Shelf) (groups : Grouping) (attrs : List Attr) → groups.attrs ≡ attrs → HasGroups (partitioned shelf groups) (length shelf.partitions) attrs
groups_had shelf groups attrs by = record { groups = groups; at = last shelf.partitions groups; by = by }

-- ---- more range indices

abbrev with_part : Shelf → Part → Shelf
with_part shelf part = record shelf { parts = shelf.parts ++ part ∷ [] }

pub part_grows : (shelf : Shelf) (part : Part) → Grows shelf (with_part shelf part)
part_grows shelf part = record { groups = λ number found h. h; parts = λ number pair h. step number pair (slice_get shelf.parts number) refl h }
  where
    step : (number : ℕ) (pair : Grouping × Indexed) (o : Option Part) → slice_get shelf.parts number ≡ o → boxes_on shelf.partitions o ≡ Some pair
        → boxes_on shelf.partitions (slice_get (shelf.parts ++ part ∷ []) number) ≡ Some pair
    step number pair None is h = absurd (cc h)
    step number pair (Some found) is h = ap (boxes_on shelf.partitions) (kept shelf.parts (part ∷ []) number found is) ∙ h

pub part_shelved : (shelf : Shelf) (part : Part) (rows : List Row) → IsShelf shelf rows → IsOver shelf.partitions part rows → IsShelf (with_part shelf part) rows
part_shelved shelf part rows stood over = record {
  groups = stood.groups;
  parts = λ number found h. elim (old_or_last shelf.parts part number found h) [
    | inl old ↦ stood.parts number found old
    | inr same ↦ subst (λ (p : Part). IsOver shelf.partitions p rows) (sym same) over
  ];
}

pub part_put : (shelf : Shelf) (part : Part) (groups : Grouping) (attrs : List Attr) (axes : Axes) (rows : List Row) → slice_get shelf.partitions part.groups ≡ Some groups
    → groups.attrs ≡ attrs → part.boxes.axes ≡ axes → IsBoxes groups part.boxes rows → IsPart (with_part shelf part) (length shelf.parts) attrs axes rows
part_put shelf part groups attrs axes rows at by along held = record {
  groups = groups;
  boxes = part.boxes;
  at = ap (boxes_on shelf.partitions) (last shelf.parts part) ∙ ap (option_map (with_boxes part.boxes)) at;
  by = by;
  along = along;
  held = held;
}

-- ---- what was found

same_pair : (p q : Grouping × Indexed) → Some p ≡ Some q → p ≡ q
same_pair p q e = cc

pub part_found : (shelf : Shelf) (number : ℕ) (attrs : List Attr) (axes : Axes) (rows : List Row) → IsShelf shelf rows → Matches shelf number attrs axes → IsPart shelf number attrs axes rows
part_found shelf number attrs axes rows stood match = step (slice_get shelf.parts number) refl match.at
  where
    step : (o : Option Part) → slice_get shelf.parts number ≡ o → boxes_on shelf.partitions o ≡ Some (match.groups, match.boxes) → IsPart shelf number attrs axes rows
    step None is h = absurd (cc h)
    step (Some part) is h =
        let over : IsOver shelf.partitions part rows = stood.parts number part is in
        let stored : Grouping × Indexed = (over.groups, part.boxes) in
        let asked : Grouping × Indexed = (match.groups, match.boxes) in
        let same : stored ≡ asked = same_pair stored asked (sym (ap (option_map (with_boxes part.boxes)) over.at) ∙ h) in
        let P : Grouping × Indexed → Type 0 = λ p. IsBoxes p.0 p.1 rows in
        record { groups = match.groups; boxes = match.boxes; at = match.at; by = match.by; along = match.along; held = subst P same over.held }

-- range indices stay where the shelf grows
pub part_stays : (old new : Shelf) (number : ℕ) (attrs : List Attr) (axes : Axes) (rows : List Row) → Grows old new → IsPart old number attrs axes rows → IsPart new number attrs axes rows
part_stays old new number attrs axes rows grows part = record {
  groups = part.groups;
  boxes = part.boxes;
  at = grows.parts number (part.groups, part.boxes) part.at;
  by = part.by;
  along = part.along;
  held = part.held;
}

pub grows_on : (old mid new : Shelf) → Grows old mid → Grows mid new → Grows old new
grows_on old mid new first second = record {
  groups = λ number found h. second.groups number found (first.groups number found h);
  parts = λ number pair h. second.parts number pair (first.parts number pair h);
}

pub grows_same : (shelf : Shelf) → Grows shelf shelf
grows_same shelf = record { groups = λ number found h. h; parts = λ number pair h. h }
