-- What holds of lists with the same elements: what these come to does not depend on their order.
use Rattle.std.proofs.Common.{◌≡◌, ℕ, zero, suc, ◌<◌, Bool, true, false, cond, List, [], ◌∷◌, length, get_or, sym, refl, ap, ◌∙◌, arith}
use Rattle.std.proofs.Math.ListN.{set}
use Rattle.std.specs.Prelude.{filter}
use Rattle.std.specs.List.{swap}
use Rattle.std.specs.List.Sorted.{IsPermutation}
use Rattle.std.proofs.lemmas.List.Sorted.{IsPermutation-refl, IsPermutation-trans, IsPermutation-cons, IsPermutation-middle, IsPermutation-keeps}
use Rattle.sgl_values.specs.Totals.{IsAssociative, IsCommutative, total}

-- a relation of lists that goes through, that a first element keeps, and in which the first two elements may change places
module _ {A : Type 0} (Same : List A → List A → Type 0) (same : (xs : List A) → Same xs xs) (joined : (xs ys zs : List A) → Same xs ys → Same ys zs → Same xs zs)
    (after : (x : A) (xs ys : List A) → Same xs ys → Same (x ∷ xs) (x ∷ ys)) (turned : (x y : A) (xs : List A) → Same (x ∷ y ∷ xs) (y ∷ x ∷ xs)) where
  -- the first element changes places with a later one
  fronted : (x : A) (xs : List A) (j : ℕ) (d : A) → j < length xs → Same (x ∷ xs) (get_or xs j d ∷ set xs j x)
  fronted x [] j d below = absurd (omega (arith, below))
  fronted x (y ∷ ys) zero d below = turned x y ys
  fronted x (y ∷ ys) (suc j) d below =
      let inner : j < length ys = omega (arith, below) in
      joined (x ∷ y ∷ ys) (y ∷ x ∷ ys) (get_or ys j d ∷ y ∷ set ys j x) (turned x y ys)
      (joined (y ∷ x ∷ ys) (y ∷ get_or ys j d ∷ set ys j x) (get_or ys j d ∷ y ∷ set ys j x) (after y (x ∷ ys) (get_or ys j d ∷ set ys j x) (fronted x ys j d inner))
      (turned y (get_or ys j d) (set ys j x)))

  swapped : (xs : List A) (i j : ℕ) (d : A) → i < length xs → j < length xs → Same xs (set (set xs i (get_or xs j d)) j (get_or xs i d))
  swapped [] i j d i_below j_below = absurd (omega (arith, i_below))
  swapped (x ∷ xs) zero zero d i_below j_below = same (x ∷ xs)
  swapped (x ∷ xs) zero (suc j) d i_below j_below =
      let inner : j < length xs = omega (arith, j_below) in fronted x xs j d inner
  swapped (x ∷ xs) (suc i) zero d i_below j_below =
      let inner : i < length xs = omega (arith, i_below) in fronted x xs i d inner
  swapped (x ∷ xs) (suc i) (suc j) d i_below j_below =
      let first : i < length xs = omega (arith, i_below) in
      let second : j < length xs = omega (arith, j_below) in
      after x xs (set (set xs i (get_or xs j d)) j (get_or xs i d)) (swapped xs i j d first second)

  exchanged : (xs : List A) (i j : ℕ) → i < length xs → j < length xs → Same xs (swap xs i j)
  exchanged [] i j i_below j_below = absurd (omega (arith, i_below))
  exchanged (d ∷ xs) i j i_below j_below = swapped (d ∷ xs) i j d i_below j_below

  -- it holds of lists with the same elements
  pub IsPermutation-same : (xs ys : List A) → IsPermutation xs ys → Same xs ys
  IsPermutation-same xs ys moved = IsPermutation-keeps xs (Same xs) (same xs) (λ l i j i_below j_below so_far. joined xs l (swap l i j) so_far (exchanged l i j i_below j_below)) ys moved

module _ {A : Type 0} (p : A → Bool) where
  cons-by : (b : Bool) (x : A) (xs ys : List A) → IsPermutation xs ys → IsPermutation (cond b (x ∷ xs) xs) (cond b (x ∷ ys) ys)
  cons-by true x xs ys same = IsPermutation-cons x xs ys same
  cons-by false x xs ys same = same

  turn-by : (b c : Bool) (x y : A) (l : List A) → IsPermutation (cond b (x ∷ cond c (y ∷ l) l) (cond c (y ∷ l) l)) (cond c (y ∷ cond b (x ∷ l) l) (cond b (x ∷ l) l))
  turn-by true true x y l = IsPermutation-middle (x ∷ []) y l
  turn-by true false x y l = IsPermutation-refl (x ∷ l)
  turn-by false true x y l = IsPermutation-refl (y ∷ l)
  turn-by false false x y l = IsPermutation-refl l

  -- what passes of a list in another order
  pub IsPermutation-filter : (xs ys : List A) → IsPermutation xs ys → IsPermutation (filter p xs) (filter p ys)
  IsPermutation-filter = IsPermutation-same (λ xs ys. IsPermutation (filter p xs) (filter p ys)) (λ xs. IsPermutation-refl (filter p xs))
      (λ xs ys zs. IsPermutation-trans (filter p xs) (filter p ys) (filter p zs)) (λ x xs ys same. cons-by (p x) x (filter p xs) (filter p ys) same)
      (λ x y xs. turn-by (p x) (p y) x y (filter p xs))

-- from the last element to the first, each takes a step
abbrev pub steps : {A B : Type 0} → (A → B → B) → B → List A → B
steps step end [] = end
steps step end (x ∷ xs) = step x (steps step end xs)

module _ {A B : Type 0} (step : A → B → B) (end : B) (free : (x y : A) (b : B) → step x (step y b) ≡ step y (step x b)) where
  -- steps that may change places come to the same in any order
  pub steps-IsPermutation : (xs ys : List A) → IsPermutation xs ys → steps step end ys ≡ steps step end xs
  steps-IsPermutation = IsPermutation-same (λ (xs ys : List A). steps step end ys ≡ steps step end xs) (λ xs. refl) (λ xs ys zs first second. second ∙ first)
      (λ x xs ys same. ap (step x) same) (λ x y xs. free y x (steps step end xs))

total-steps : {A B : Type 0} (op : B → B → B) (end : B) (worth : A → B) (xs : List A) → total op end worth xs ≡ steps (λ x b. op (worth x) b) end xs
total-steps op end worth [] = refl
total-steps op end worth (x ∷ xs) = ap (op (worth x)) (total-steps op end worth xs)

-- a total by an operation in which operands may change places is the same in any order
pub total-IsPermutation : {A B : Type 0} (op : B → B → B) (end : B) (worth : A → B) → IsAssociative op → IsCommutative op
    → (xs ys : List A) → IsPermutation xs ys → total op end worth ys ≡ total op end worth xs
total-IsPermutation {A} {B} op end worth assoc comm xs ys p =
    total-steps op end worth ys
    ∙ steps-IsPermutation (λ (x : A) (b : B). op (worth x) b) end
    (λ x y b. sym (assoc (worth x) (worth y) b) ∙ ap (λ (a : B). op a b) (comm (worth x) (worth y)) ∙ assoc (worth y) (worth x) b) xs ys p
    ∙ sym (total-steps op end worth xs)
