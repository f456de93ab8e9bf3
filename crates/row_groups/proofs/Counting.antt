-- The rows of groups that are apart are no more than all rows.
use Rattle.std.proofs.Common.{◌≡◌, ℕ, ◌+◌, ◌<◌, ◌≤◌, inl, inr, List, [], ◌∷◌, ◌++◌, length, map, get_or, sym, subst, arith}
use Rattle.std.specs.Prelude.{All, Contains}
use Rattle.std.proofs.lemmas.List.{length-map}
use Rattle.std.proofs.lemmas.List.Elements.{All-contains, All-map, Contains-append_cases}
use Rattle.cell_links.proofs.Rows.{Apart, Apart-cons, Apart-head, Apart-tail, Contains-head, Contains-nil, Contains-tail, length-Apart, none_apart}
use Rattle.row_groups.specs.Places.{AreApart}
use Rattle.row_groups.specs.declared.ranked.Ranked.{Ranked}

Apart-join : (xs ys : List ℕ) → Apart xs → Apart ys → ((x : ℕ) → Contains xs x → Contains ys x → ⊥) → Apart (xs ++ ys)
Apart-join [] ys first second none = second
Apart-join (x ∷ xs) ys first second none =
    Apart-cons x (xs ++ ys)
    (λ y there. elim (Contains-append_cases xs ys y there) [
      | inl left ↦ Apart-head x xs y first left
      | inr right ↦ λ same. none x (Contains-head x xs) (subst (Contains ys) (sym same) right)
    ]) (Apart-join xs ys (Apart-tail x xs first) second (λ z left right. none z (Contains-tail x xs z left) right))

-- no row is there twice, and each is in one of so many groups
pub record ArePlaced (lists : List (List ℕ)) (count : ℕ) (rows : List ℕ) : Type 0 where
  pub apart : Apart rows
  pub placed : (row : ℕ) → Contains rows row → (group : ℕ) × (group < count) × Contains (get_or lists group []) row

pub none_placed : (lists : List (List ℕ)) → ArePlaced lists 0 []
none_placed lists = record { apart = none_apart; placed = λ row there. absurd (Contains-nil row there) }

-- one group more
pub placed_more : (lists : List (List ℕ)) (count : ℕ) (rows : List ℕ) → AreApart lists → ArePlaced lists count rows → ArePlaced lists (count + 1) (rows ++ get_or lists count [])
placed_more lists count rows are before = record {
  apart = Apart-join rows (get_or lists count []) before.apart (are.once count)
      (λ row left right.
      let place = before.placed row left in
      let less : place.0 < count = place.1 in
      let same : place.0 ≡ count = are.one_list place.0 count row place.2 right in
      omega (arith, less, same));
  placed = λ row there. elim (Contains-append_cases rows (get_or lists count []) row there) [
    | inl left ↦ let place = before.placed row left in let less : place.0 < count = place.1 in (place.0, omega (arith, less), place.2)
    | inr right ↦ (count, omega arith, right)
  ];
}

-- of so many rows
pub placed_few : (lists : List (List ℕ)) (count size : ℕ) (all : List Ranked) → ArePlaced lists count (map (λ (r : Ranked). r.row) all) → All (λ r. r.row < size) all → length all ≤ size
placed_few lists count size all are within =
    let rows : List ℕ = map (λ (r : Ranked). r.row) all in
    let most : length (map (λ (r : Ranked). r.row) all) ≤ size =
    length-Apart rows size are.apart (λ x inside. All-contains (λ row. row < size) rows x (All-map (λ row. row < size) (λ (r : Ranked). r.row) all within) inside) in
    omega (arith, most, length-map all (λ (r : Ranked). r.row))
