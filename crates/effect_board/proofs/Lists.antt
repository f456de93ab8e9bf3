-- Lists of words and of views after a change, and sums over views.
use Rattle.std.proofs.Common.{◌≡◌, ℕ, zero, suc, ◌+◌, ◌<◌, ◌≤◌, ◌⊎◌, inl, inr, ⊎_elim, List, [], ◌∷◌, ◌++◌, map, length, get_or, set, sym, refl, ap, ◌∙◌, arith}
use Rattle.std.specs.List.{range_with_len}
use Rattle.std.proofs.lemmas.List.{append_assoc}
use Rattle.std.proofs.lemmas.List.FromFn.{map-range_with_len_more}
use mathlib.Core.Option.{some, some-injective, some-ne-none}
use lib.ListN.{get_elem?}
use Rattle.effect_board.specs.declared.view.View.{View}
use Rattle.effect_board.specs.Rule.{sum_of, first_of, after_first}

-- ---- lists

module _ {A : Type 0} where
  pub at_inside : (xs : List A) (i : ℕ) (x : A) → get_elem? xs i ≡ some x → i < length xs
  at_inside [] i x at = absurd (some-ne-none x (sym at))
  at_inside (y ∷ xs) zero x at = omega arith
  at_inside (y ∷ xs) (suc i) x at = let rest = at_inside xs i x at in omega (arith, rest)

  pub at_is : (xs : List A) (i : ℕ) (x d : A) → get_elem? xs i ≡ some x → get_or xs i d ≡ x
  at_is [] i x d at = absurd (some-ne-none x (sym at))
  at_is (y ∷ xs) zero x d at = some-injective y x at
  at_is (y ∷ xs) (suc i) x d at = at_is xs i x d at

  -- an element of a list with one more at its end
  pub at_pushed : (xs : List A) (x y : A) (i : ℕ) → get_elem? (xs ++ x ∷ []) i ≡ some y → (get_elem? xs i ≡ some y) ⊎ ((i ≡ length xs) × (x ≡ y))
  at_pushed [] x y zero at = inr (refl, some-injective x y at)
  at_pushed [] x y (suc i) at = absurd (some-ne-none y (sym at))
  at_pushed (z ∷ xs) x y zero at = inl at
  at_pushed (z ∷ xs) x y (suc i) at =
      ⊎_elim (λ (is : get_elem? xs i ≡ some y). inl is) (λ (is : (i ≡ length xs) × (x ≡ y)). inr (ap suc is.0, is.1)) (at_pushed xs x y i at)

  pub append_nothing : (xs : List A) → xs ++ [] ≡ xs
  append_nothing [] = refl
  append_nothing (x ∷ xs) = ap (λ (l : List A). x ∷ l) (append_nothing xs)

pub map_set : {A B : Type 0} (f : A → B) (xs : List A) (i : ℕ) (x : A) → map f (set xs i x) ≡ set (map f xs) i (f x)
map_set f [] i x = refl
map_set f (y ∷ xs) zero x = refl
map_set {A} {B} f (y ∷ xs) (suc i) x = ap (λ (l : List B). f y ∷ l) (map_set f xs i x)

pub map_pushed : {A B : Type 0} (f : A → B) (xs : List A) (x : A) → map f (xs ++ x ∷ []) ≡ map f xs ++ f x ∷ []
map_pushed f [] x = refl
map_pushed {A} {B} f (y ∷ xs) x = ap (λ (l : List B). f y ∷ l) (map_pushed f xs x)

-- ---- the word of the claims, and those behind it

pub first_set : (words : List ℕ) (x : ℕ) → 0 < length words → first_of (set words 0 x) ≡ x
first_set [] x some_word = absurd (omega (arith, some_word))
first_set (word ∷ words) x some_word = refl

pub first_get : (words : List ℕ) → get_or words 0 0 ≡ first_of words
first_get [] = refl
first_get (word ∷ words) = refl

pub rest_set : (words : List ℕ) (x : ℕ) → after_first (set words 0 x) ≡ after_first words
rest_set [] x = refl
rest_set (word ∷ words) x = refl

pub first_later : (words : List ℕ) (i x : ℕ) → first_of (set words (suc i) x) ≡ first_of words
first_later [] i x = refl
first_later (word ∷ words) i x = refl

pub rest_later : (words : List ℕ) (i x : ℕ) → after_first (set words (suc i) x) ≡ set (after_first words) i x
rest_later [] i x = refl
rest_later (word ∷ words) i x = refl

pub get_later : (words : List ℕ) (i : ℕ) → get_or words (suc i) 0 ≡ get_or (after_first words) i 0
get_later [] i = refl
get_later (word ∷ words) i = refl

pub rest_long : (words : List ℕ) (n : ℕ) → length words ≡ n + 1 → length (after_first words) ≡ n
rest_long [] n long = omega (arith, long)
rest_long (word ∷ words) n long = omega (arith, long)

-- one more word at its start
pub starts_more : (words now ahead : List ℕ) (start : ℕ → ℕ) (place word : ℕ) → now ≡ words ++ word ∷ [] → words ≡ ahead ++ map start (range_with_len 0 place) → word ≡ start place
    → now ≡ ahead ++ map start (range_with_len 0 (place + 1))
starts_more words now ahead start place word pushed are is =
    pushed ∙ (λ k. are k ++ is k ∷ [])
    ∙ append_assoc ahead (map start (range_with_len 0 place)) (start place ∷ [])
    ∙ ap (λ (l : List ℕ). ahead ++ l) (sym (map-range_with_len_more start 0 place place (omega arith)))

-- as many words as a rule begins with, and some that it goes on with anew
pub starts_anew : (start : ℕ → ℕ) (whole : ℕ) → ((word : ℕ) → start (whole + word) ≡ start word) → (count : ℕ)
    → map start (range_with_len 0 whole) ++ map start (range_with_len 0 count) ≡ map start (range_with_len 0 (whole + count))
starts_anew start whole anew zero =
    let none : whole ≡ whole + 0 = omega arith in
    append_nothing (map start (range_with_len 0 whole)) ∙ ap (λ (n : ℕ). map start (range_with_len 0 n)) none
starts_anew start whole anew (suc count) =
    let front = map start (range_with_len 0 whole) in
    let behind = map start (range_with_len 0 count) in
    let next : ℕ = whole + count in
    let one : suc count ≡ count + 1 = omega arith in
    let on : next + 1 ≡ whole + suc count = omega arith in
    ap (λ (n : ℕ). front ++ map start (range_with_len 0 n)) one
    ∙ ap (λ (l : List ℕ). front ++ l) (map-range_with_len_more start 0 count count (omega arith))
    ∙ sym (append_assoc front behind (start count ∷ []))
    ∙ (λ k. starts_anew start whole anew count k ++ sym (anew count) k ∷ [])
    ∙ sym (map-range_with_len_more start 0 next next (omega arith))
    ∙ ap (λ (n : ℕ). map start (range_with_len 0 n)) on

-- ---- sums over views

module _ (number : View → ℕ) where
  pub sum_set : (views : List View) (i : ℕ) (old new : View) → get_elem? views i ≡ some old → sum_of number (set views i new) + number old ≡ sum_of number views + number new
  sum_set [] i old new at = absurd (some-ne-none old (sym at))
  sum_set (view ∷ views) zero old new at = let is = ap number (some-injective view old at) in omega (arith, is)
  sum_set (view ∷ views) (suc i) old new at = let rest = sum_set views i old new at in omega (arith, rest)

  pub sum_pushed : (views : List View) (view : View) → sum_of number (views ++ view ∷ []) ≡ sum_of number views + number view
  sum_pushed [] view = omega arith
  sum_pushed (first ∷ views) view = let rest = sum_pushed views view in omega (arith, rest)

  pub sum_has : (views : List View) (i : ℕ) (view : View) → get_elem? views i ≡ some view → number view ≤ sum_of number views
  sum_has [] i view at = absurd (some-ne-none view (sym at))
  sum_has (first ∷ views) zero view at = let is = ap number (some-injective first view at) in omega (arith, is)
  sum_has (first ∷ views) (suc i) view at = let rest = sum_has views i view at in omega (arith, rest)

  pub sum_below : (other : View → ℕ) (views : List View) → ((i : ℕ) (view : View) → get_elem? views i ≡ some view → number view ≤ other view) → sum_of number views ≤ sum_of other views
  sum_below other [] each = omega arith
  sum_below other (view ∷ views) each =
      let here = each 0 view refl in
      let rest = sum_below other views (λ i v at. each (suc i) v at) in
      omega (arith, here, rest)
