-- The rows of a list are those of the points in its cells.
use Rattle.std.proofs.Common.{◌≡◌, ◌≢◌, ◌∙◌, ◌<◌, ℕ, Bool, true, false, cond, List, [], ◌∷◌, ◌++◌, map, length, refl, sym, ap, subst, ⊎_elim, arith}
use Rattle.std.specs.Prelude.{Contains, filter}
use Rattle.std.specs.List.Sorted.{IsPermutation}
use Rattle.std.proofs.lemmas.List.Elements.{All-contains}
use Rattle.std.proofs.lemmas.List.Kept.{AllPairs-filter}
use Rattle.std.proofs.lemmas.List.Sorted.{IsPermutation-refl, IsPermutation-sym, IsPermutation-cons, IsPermutation-trans, IsPermutation-middle, IsPermutation-map}
use Rattle.cell_links.specs.Links.{IsLinks, rows_of}
use Rattle.cell_links.proofs.Rows.{Apart, Apart-back, Apart-head, Apart-parts, Apart-tail, Apart-without, Contains-cons_cases, Contains-head, Contains-nil, Contains-others, Contains-split, Contains-tail, Contains-without}
use Rattle.std.proofs.lemmas.List.Elements.{Contains-append_cases}
use Rattle.cell_keep.specs.declared.point.KeepPoint.{KeepPoint}
use Rattle.cell_keep.specs.Grid.{cell_of, list_of}
use Rattle.cell_keep.specs.declared.held.Held.{Held}
use Rattle.cell_keep.specs.Kept.{point_at, points_of, ArePlaced}
use Rattle.cell_keep.specs.Rows.{points_at}

-- ---- lists of numbers that are apart

apart_from : (a : List ℕ) (x : ℕ) (b : List ℕ) (y : ℕ) → Apart (a ++ x ∷ b) → Contains (a ++ b) y → x ≢ y
apart_from a x b y apart there same =
    ⊎_elim (λ (front : Contains a y). Apart-parts a (x ∷ b) y x apart front (Contains-head x b) (sym same))
    (λ (back : Contains b y). Apart-head x b y (Apart-back a (x ∷ b) apart) back same) (Contains-append_cases a b y there)

moved : (x : ℕ) (xs ys a b : List ℕ) → ys ≡ a ++ x ∷ b → IsPermutation xs (a ++ b) → IsPermutation (x ∷ xs) ys
moved x xs ys a b is inner =
    subst (λ (l : List ℕ). IsPermutation (x ∷ xs) l) (sym is)
    (IsPermutation-trans (x ∷ xs) (x ∷ (a ++ b)) (a ++ x ∷ b) (IsPermutation-cons x xs (a ++ b) inner)
    (IsPermutation-sym (a ++ x ∷ b) (x ∷ (a ++ b)) (IsPermutation-middle a x b)))

-- lists with the same numbers, each once, are one another in another order
pub same_members : (xs ys : List ℕ) → Apart xs → Apart ys → ((x : ℕ) → Contains xs x → Contains ys x) → ((x : ℕ) → Contains ys x → Contains xs x)
    → IsPermutation xs ys
same_members [] [] first second to from = IsPermutation-refl []
same_members [] (y ∷ ys) first second to from = absurd (Contains-nil y (from y (Contains-head y ys)))
same_members (x ∷ xs) ys first second to from =
    let split = Contains-split ys x (to x (Contains-head x xs)) in
    let a = split.0 in
    let b = split.1 in
    let apart : Apart (a ++ x ∷ b) = subst Apart split.2 second in
    moved x xs ys a b split.2 (same_members xs (a ++ b) (Apart-tail x xs first) (Apart-without a x b apart)
    (λ y there. Contains-others a x b y (Apart-head x xs y first there) (subst (λ (l : List ℕ). Contains l y) split.2 (to y (Contains-tail x xs y there))))
    (λ y there. ⊎_elim (λ (same : x ≡ y). absurd (apart_from a x b y apart there same)) (λ (later : Contains xs y). later)
    (Contains-cons_cases x xs y (from y (subst (λ (l : List ℕ). Contains l y) (sym split.2) (Contains-without a x b y there))))))

-- ---- what a filter keeps

module _ (test : ℕ → Bool) where
  kept_step : (y : ℕ) (ys : List ℕ) (x : ℕ) → (Contains (filter test ys) x → Contains ys x × (test x ≡ true)) → (b : Bool) → test y ≡ b
      → Contains (cond b (y ∷ filter test ys) (filter test ys)) x → Contains (y ∷ ys) x × (test x ≡ true)
  kept_step y ys x inner true passes there =
      ⊎_elim (λ (same : y ≡ x). (subst (Contains (y ∷ ys)) same (Contains-head y ys), ap test (sym same) ∙ passes))
      (λ (later : Contains (filter test ys) x). let found = inner later in (Contains-tail y ys x found.0, found.1)) (Contains-cons_cases y (filter test ys) x there)
  kept_step y ys x inner false passes there = let found = inner there in (Contains-tail y ys x found.0, found.1)

  pub Contains-from_filter : (xs : List ℕ) (x : ℕ) → Contains (filter test xs) x → Contains xs x × (test x ≡ true)
  Contains-from_filter [] x there = absurd (Contains-nil x there)
  Contains-from_filter (y ∷ ys) x there = kept_step y ys x (Contains-from_filter ys x) (test y) refl there

  keeps_step : (y : ℕ) (ys : List ℕ) (x : ℕ) → test x ≡ true → (Contains ys x → Contains (filter test ys) x) → (b : Bool) → test y ≡ b
      → Contains (y ∷ ys) x → Contains (cond b (y ∷ filter test ys) (filter test ys)) x
  keeps_step y ys x passes inner true is there =
      ⊎_elim (λ (same : y ≡ x). subst (Contains (y ∷ filter test ys)) same (Contains-head y (filter test ys)))
      (λ (later : Contains ys x). Contains-tail y (filter test ys) x (inner later)) (Contains-cons_cases y ys x there)
  keeps_step y ys x passes inner false is there =
      ⊎_elim (λ (same : y ≡ x). absurd (both (sym is ∙ (ap test same ∙ passes)))) inner (Contains-cons_cases y ys x there)
    where
      both : false ≡ true → ⊥
      both h = cc

  pub Contains-filter : (xs : List ℕ) (x : ℕ) → test x ≡ true → Contains xs x → Contains (filter test xs) x
  Contains-filter [] x passes there = absurd (Contains-nil x there)
  Contains-filter (y ∷ ys) x passes there = keeps_step y ys x passes (Contains-filter ys x passes) (test y) refl there

map_step : {A B : Type 0} (f : A → B) (b : Bool) (x : A) (xs : List A) → cond b (f x ∷ map f xs) (map f xs) ≡ map f (cond b (x ∷ xs) xs)
map_step f true x xs = refl
map_step f false x xs = refl

pub filter-map : {A B : Type 0} (f : A → B) (test : B → Bool) (xs : List A) → filter test (map f xs) ≡ map f (filter (λ x. test (f x)) xs)
filter-map f test [] = refl
filter-map f test (x ∷ xs) =
    ap (λ l. cond (test (f x)) (f x ∷ l) l) (filter-map f test xs) ∙ map_step f (test (f x)) x (filter (λ y. test (f y)) xs)

-- ---- the rows of a list

module _ (held : Held) (placed : ArePlaced held) (are : IsLinks held.links) where
  -- each row of a list has a point
  pub row_inside : (list row : ℕ) → Contains (rows_of held.links list) row → row < length held.points.items
  row_inside list row there =
      omega (arith, All-contains (λ r. r < held.links.rows) (rows_of held.links list) row (are.within list) there, placed.rows, placed.store)

  -- the points of a list that pass a test which no point of another list passes
  pub list_members : (list : ℕ) (test : KeepPoint → Bool) → ((point : KeepPoint) → test point ≡ true → list_of (cell_of point) ≡ list)
      → IsPermutation (filter test (points_of held)) (filter test (points_at held.points.items (rows_of held.links list)))
  list_members list test alone =
      let at = point_at held.points.items in
      let passes = λ (row : ℕ). test (at row) in
      let rows = held.order.items in
      let linked = rows_of held.links list in
      let numbers : IsPermutation (filter passes rows) (filter passes linked) =
      same_members (filter passes rows) (filter passes linked)
      (AllPairs-filter (λ x y. x ≢ y) passes rows placed.once)
      (AllPairs-filter (λ x y. x ≢ y) passes linked (are.once list))
      (λ row there. let found = Contains-from_filter passes rows row there in
      Contains-filter passes linked row found.1
      (subst (λ (l : ℕ). Contains (rows_of held.links l) row) (alone (at row) found.1) (placed.placed row found.0)))
      (λ row there. let found = Contains-from_filter passes linked row there in
      Contains-filter passes rows row found.1 (placed.within row (list, found.0))) in
      subst (λ (l : List KeepPoint). IsPermutation l (filter test (points_at held.points.items linked))) (sym (filter-map at test rows))
      (subst (IsPermutation (map at (filter passes rows))) (sym (filter-map at test linked)) (IsPermutation-map at (filter passes rows) (filter passes linked) numbers))
