-- Lists of rows: which rows they contain, apart from one another, and without one.
use Rattle.std.proofs.Common.{◌≡◌, ◌≢◌, ℕ, zero, suc, ◌<◌, ◌≤◌, ◌⊎◌, inl, inr, ⊎_elim, cond, not, Bool, true, List, [], ◌∷◌, ◌++◌, length, get_or, take, drop, set, map, refl, sym, ap, ◌∙◌, subst, eqb, eq-eqb, arith}
use Rattle.std.specs.Prelude.{All, AllPairs, Contains}
use Rattle.std.proofs.Math.ListN.{length-set}
use Rattle.std.proofs.lemmas.Bool.{ne_eqb, cases_eq}
use Rattle.std.proofs.lemmas.Bool.Decides.{Decides-eqb, nat_tests}
use Rattle.std.proofs.lemmas.List.{set_split, set-get_or, get_or-set_same, get_or-set_other, get_or-map, get_or_default, same_lists, length-map}
use Rattle.std.proofs.lemmas.List.Elements.{Contains-get_or, Contains-append_left, Contains-append_right, Contains-append_cases}
use Rattle.std.proofs.lemmas.Map.Made.{IsDistinct-from_AllPairs}
use Rattle.std.proofs.lemmas.Map.Views.{Contains-from_any}
use Rattle.std.proofs.lemmas.Map.Steps.{length-le_from_distinct_below}
use Rattle.cell_links.specs.Links.{without}

-- ---- what lists contain

pub Contains-head : (x : ℕ) (xs : List ℕ) → Contains (x ∷ xs) x
Contains-head x xs = (0, omega arith, refl)

pub Contains-tail : (x : ℕ) (xs : List ℕ) (y : ℕ) → Contains xs y → Contains (x ∷ xs) y
Contains-tail x xs y there = let inside = there.1 in (suc there.0, omega (arith, inside), there.2)

contains_at : (x : ℕ) (xs : List ℕ) (y k : ℕ) → k < length (x ∷ xs) → get_or (x ∷ xs) k y ≡ y → (x ≡ y) ⊎ Contains xs y
contains_at x xs y zero inside is = inl is
contains_at x xs y (suc k) inside is = inr (k, omega (arith, inside), is)

pub Contains-cons_cases : (x : ℕ) (xs : List ℕ) (y : ℕ) → Contains (x ∷ xs) y → (x ≡ y) ⊎ Contains xs y
Contains-cons_cases x xs y there = contains_at x xs y there.0 there.1 there.2

pub All-from_Contains : (P : ℕ → Type 0) (xs : List ℕ) → ((x : ℕ) → Contains xs x → P x) → All P xs
All-from_Contains P xs each k d inside = each (get_or xs k d) (Contains-get_or xs k d inside)

pub Contains-nil : (x : ℕ) → Contains [] x → ⊥
Contains-nil x there = let inside = there.1 in omega (arith, inside)

-- a row that is contained, and what stands on both sides of it
pub Contains-split : (xs : List ℕ) (x : ℕ) → Contains xs x → (before : List ℕ) × (after : List ℕ) × (xs ≡ before ++ x ∷ after)
Contains-split xs x there = (
  take there.0 xs,
  drop (suc there.0) xs,
  sym (set-get_or xs there.0 x) ∙ set_split xs there.0 (get_or xs there.0 x) there.1
      ∙ ap (λ (y : ℕ). take there.0 xs ++ y ∷ drop (suc there.0) xs) there.2,
)

-- what is contained behind one that is left out
pub Contains-without : (xs : List ℕ) (x : ℕ) (ys : List ℕ) (y : ℕ) → Contains (xs ++ ys) y → Contains (xs ++ x ∷ ys) y
Contains-without xs x ys y there =
    ⊎_elim (Contains-append_left xs (x ∷ ys) y) (λ back. Contains-append_right xs (x ∷ ys) y (Contains-tail x ys y back)) (Contains-append_cases xs ys y there)

pub Contains-others : (xs : List ℕ) (x : ℕ) (ys : List ℕ) (y : ℕ) → x ≢ y → Contains (xs ++ x ∷ ys) y → Contains (xs ++ ys) y
Contains-others xs x ys y other there =
    ⊎_elim (Contains-append_left xs ys y)
    (λ back. ⊎_elim (λ same. absurd (other same)) (Contains-append_right xs ys y) (Contains-cons_cases x ys y back)) (Contains-append_cases xs (x ∷ ys) y there)

-- ---- no two are the same

abbrev pub Apart : List ℕ → Type 0
Apart xs = AllPairs (λ x y. x ≢ y) xs

pub Apart-tail : (x : ℕ) (xs : List ℕ) → Apart (x ∷ xs) → Apart xs
Apart-tail x xs apart i j d order inside = apart (suc i) (suc j) d (omega (arith, order)) (omega (arith, inside))

-- the first is none of the others
pub Apart-head : (x : ℕ) (xs : List ℕ) (y : ℕ) → Apart (x ∷ xs) → Contains xs y → x ≢ y
Apart-head x xs y apart there same = let inside = there.1 in apart 0 (suc there.0) y (omega arith) (omega (arith, inside)) (same ∙ sym there.2)

pub Apart-cons : (x : ℕ) (xs : List ℕ) → ((y : ℕ) → Contains xs y → x ≢ y) → Apart xs → Apart (x ∷ xs)
Apart-cons x xs none apart i zero d order inside = absurd (omega (arith, order))
Apart-cons x xs none apart zero (suc j) d order inside = let later : j < length xs = omega (arith, inside) in none (get_or xs j d) (Contains-get_or xs j d later)
Apart-cons x xs none apart (suc i) (suc j) d order inside = apart i j d (omega (arith, order)) (omega (arith, inside))

-- of joined lists: none of the one is in the other
pub Apart-parts : (xs ys : List ℕ) (x y : ℕ) → Apart (xs ++ ys) → Contains xs x → Contains ys y → x ≢ y
Apart-parts [] ys x y apart first second = absurd (Contains-nil x first)
Apart-parts (z ∷ xs) ys x y apart first second =
    ⊎_elim (λ (here : z ≡ x). λ (same : x ≡ y). Apart-head z (xs ++ ys) y apart (Contains-append_right xs ys y second) (here ∙ same))
    (λ (later : Contains xs x). Apart-parts xs ys x y (Apart-tail z (xs ++ ys) apart) later second) (Contains-cons_cases z xs x first)

pub none_apart : Apart []
none_apart i j d order inside = absurd (omega (arith, inside))

pub Apart-front : (xs ys : List ℕ) → Apart (xs ++ ys) → Apart xs
Apart-front [] ys apart = none_apart
Apart-front (x ∷ xs) ys apart =
    Apart-cons x xs (λ y there. Apart-head x (xs ++ ys) y apart (Contains-append_left xs ys y there)) (Apart-front xs ys (Apart-tail x (xs ++ ys) apart))

pub Apart-back : (xs ys : List ℕ) → Apart (xs ++ ys) → Apart ys
Apart-back [] ys apart = apart
Apart-back (x ∷ xs) ys apart = Apart-back xs ys (Apart-tail x (xs ++ ys) apart)

pub Apart-without : (xs : List ℕ) (x : ℕ) (ys : List ℕ) → Apart (xs ++ x ∷ ys) → Apart (xs ++ ys)
Apart-without [] x ys apart = Apart-tail x ys apart
Apart-without (z ∷ xs) x ys apart =
    Apart-cons z (xs ++ ys) (λ y there. Apart-head z (xs ++ x ∷ ys) y apart (Contains-without xs x ys y there)) (Apart-without xs x ys (Apart-tail z (xs ++ x ∷ ys) apart))

equal_is : (x y : ℕ) → eqb x y ≡ true → x ≡ y
equal_is x y same = grind (arith, nat_tests)

-- rows that are apart are at most as many as there are
pub length-Apart : (xs : List ℕ) (n : ℕ) → Apart xs → ((x : ℕ) → Contains xs x → x < n) → length xs ≤ n
length-Apart xs n apart below =
    length-le_from_distinct_below xs n (IsDistinct-from_AllPairs {eq = eqb} Decides-eqb xs apart) (λ q found. below q (Contains-from_any {eq = eqb} equal_is q xs found))

-- ---- without a row

pub without-none : (row : ℕ) (xs : List ℕ) → ((x : ℕ) → Contains xs x → x ≢ row) → without row xs ≡ xs
without-none row [] none = refl
without-none row (x ∷ xs) none =
    ap (λ (b : Bool). cond (not b) (x ∷ without row xs) (without row xs)) (ne_eqb x row (none x (Contains-head x xs)))
    ∙ ap (λ (l : List ℕ). x ∷ l) (without-none row xs (λ y there. none y (Contains-tail x xs y there)))

pub without-split : (xs : List ℕ) (row : ℕ) (ys : List ℕ) → Apart (xs ++ row ∷ ys) → without row (xs ++ row ∷ ys) ≡ xs ++ ys
without-split [] row ys apart =
    ap (λ (b : Bool). cond (not b) (row ∷ without row ys) (without row ys)) (eq-eqb row row refl)
    ∙ without-none row ys (λ y there same. Apart-head row ys y apart there (sym same))
without-split (x ∷ xs) row ys apart =
    ap (λ (b : Bool). cond (not b) (x ∷ without row (xs ++ row ∷ ys)) (without row (xs ++ row ∷ ys)))
    (ne_eqb x row (Apart-head x (xs ++ row ∷ ys) row apart (Contains-append_right xs (row ∷ ys) row (Contains-head row ys))))
    ∙ ap (λ (l : List ℕ). x ∷ l) (without-split xs row ys (Apart-tail x (xs ++ row ∷ ys) apart))

-- ---- lists of which one is another

pub set_cases : (lists : List (List ℕ)) (group : ℕ) (new : List ℕ) (P : ℕ → List ℕ → Type 0) → group < length lists
    → P group new → ((other : ℕ) → other ≢ group → P other (get_or lists other [])) → (other : ℕ) → P other (get_or (set lists group new) other [])
set_cases lists group new P inside here else' other =
    ⊎_elim
    (λ (same : other ≡ group).
    subst (λ (o : ℕ). P o (get_or (set lists group new) o [])) (sym same) (subst (P group) (sym (get_or-set_same lists group new [] inside)) here))
    (λ (apart : other ≢ group). subst (P other) (sym (get_or-set_other lists group other new [] apart)) (else' other apart)) (cases_eq other group)

-- all lists without a row are those where the one that it is in is without it
pub map-without : (lists : List (List ℕ)) (group row : ℕ) (xs ys : List ℕ) → group < length lists → get_or lists group [] ≡ xs ++ row ∷ ys → Apart (xs ++ row ∷ ys)
    → ((other x : ℕ) → other ≢ group → Contains (get_or lists other []) x → x ≢ row)
    → map (without row) lists ≡ set lists group (xs ++ ys)
map-without lists group row xs ys inside is apart others =
    same_lists (map (without row) lists) (set lists group (xs ++ ys)) (length-map lists (without row) ∙ sym (length-set lists group (xs ++ ys))) (λ k d below.
    let within : k < length lists = omega (arith, below, length-map lists (without row)) in
    let within' : k < length (set lists group (xs ++ ys)) = omega (arith, within, length-set lists group (xs ++ ys)) in
    get_or-map (without row) lists k [] d within
    ∙ set_cases lists group (xs ++ ys) (λ (o : ℕ) (l : List ℕ). without row (get_or lists o []) ≡ l) inside
    (ap (without row) is ∙ without-split xs row ys apart)
    (λ other away. without-none row (get_or lists other []) (λ x there. others other x away there)) k
    ∙ get_or_default (set lists group (xs ++ ys)) k [] d within')
