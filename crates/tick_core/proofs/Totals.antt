-- Totals of lists by an operation that is associative and commutative, after one or two elements change.
use Rattle.std.proofs.Common.{◌≡◌, ◌≢◌, ℕ, zero, suc, ◌<◌, List, [], ◌∷◌, ◌++◌, length, get_or, set, map, sym, refl, ap, ◌∙◌, arith}
use Rattle.std.specs.List.{flat_map}
use Rattle.sgl_values.specs.Totals.{IsAssociative, IsCommutative, total}

module _ {A B : Type 0} (op : B → B → B) (end : B) (worth : A → B) where
  module _ (assoc : IsAssociative op) (comm : IsCommutative op) where
    pub swapped : (a b c : B) → op a (op b c) ≡ op b (op a c)
    swapped a b c = sym (assoc a b c) ∙ ap (λ (z : B). op z c) (comm a b) ∙ assoc b a c

    -- one element, and the rest
    pub total-one : (xs : List A) (i : ℕ) (d : A) → i < length xs
        → (rest : B) × (total op end worth xs ≡ op (worth (get_or xs i d)) rest) × ((w : A) → total op end worth (set xs i w) ≡ op (worth w) rest)
    total-one [] i d inside = absurd (omega (arith, inside))
    total-one (x ∷ xs) zero d inside = (total op end worth xs, refl, λ w. refl)
    total-one (x ∷ xs) (suc i) d inside = let r = total-one xs i d (omega (arith, inside)) in (
      op (worth x) r.0,
      ap (op (worth x)) r.1 ∙ swapped (worth x) (worth (get_or xs i d)) r.0,
      λ w. ap (op (worth x)) (r.2 w) ∙ swapped (worth x) (worth w) r.0,
    )

    -- an element becomes one that is worth as much
    pub total-same : (xs : List A) (i : ℕ) (d w : A) → i < length xs → worth w ≡ worth (get_or xs i d) → total op end worth (set xs i w) ≡ total op end worth xs
    total-same xs i d w inside same = let r = total-one xs i d inside in r.2 w ∙ ap (λ (z : B). op z r.0) same ∙ sym r.1

    -- an element becomes one that is worth more
    pub total-more : (xs : List A) (i : ℕ) (d w : A) (more : B) → i < length xs → worth w ≡ op (worth (get_or xs i d)) more
        → total op end worth (set xs i w) ≡ op (total op end worth xs) more
    total-more xs i d w more inside here = let r = total-one xs i d inside in let old : B = worth (get_or xs i d) in
        r.2 w ∙ ap (λ (z : B). op z r.0) here ∙ assoc old more r.0 ∙ ap (op old) (comm more r.0) ∙ sym (assoc old r.0 more) ∙ ap (λ (z : B). op z more) (sym r.1)

    -- two elements, and the rest
    pub total-two : (xs : List A) (i j : ℕ) (d : A) → i < length xs → j < length xs → i ≢ j
        → (rest : B) × (total op end worth xs ≡ op (op (worth (get_or xs i d)) (worth (get_or xs j d))) rest)
        × ((a b : A) → total op end worth (set (set xs i a) j b) ≡ op (op (worth a) (worth b)) rest)
    total-two [] i j d first second apart = absurd (omega (arith, first))
    total-two (x ∷ xs) zero zero d first second apart = absurd (apart refl)
    total-two (x ∷ xs) zero (suc j) d first second apart = let r = total-one xs j d (omega (arith, second)) in (
      r.0,
      ap (op (worth x)) r.1 ∙ sym (assoc (worth x) (worth (get_or xs j d)) r.0),
      λ a b. ap (op (worth a)) (r.2 b) ∙ sym (assoc (worth a) (worth b) r.0),
    )
    total-two (x ∷ xs) (suc i) zero d first second apart = let r = total-one xs i d (omega (arith, first)) in let v : B = worth (get_or xs i d) in (
      r.0,
      ap (op (worth x)) r.1 ∙ swapped (worth x) v r.0 ∙ sym (assoc v (worth x) r.0),
      λ a b. ap (op (worth b)) (r.2 a) ∙ swapped (worth b) (worth a) r.0 ∙ sym (assoc (worth a) (worth b) r.0),
    )
    total-two (x ∷ xs) (suc i) (suc j) d first second apart =
        let r = total-two xs i j d (omega (arith, first)) (omega (arith, second)) (λ same. apart (ap suc same)) in
        let both : B = op (worth (get_or xs i d)) (worth (get_or xs j d)) in (
          op (worth x) r.0,
          ap (op (worth x)) r.1 ∙ swapped (worth x) both r.0,
          λ a b. ap (op (worth x)) (r.2 a b) ∙ swapped (worth x) (op (worth a) (worth b)) r.0,
        )

    -- two elements become two others that are worth as much together
    pub total-moved : (xs : List A) (i j : ℕ) (d a b : A) → i < length xs → j < length xs → i ≢ j
        → op (worth a) (worth b) ≡ op (worth (get_or xs i d)) (worth (get_or xs j d)) → total op end worth (set (set xs i a) j b) ≡ total op end worth xs
    total-moved xs i j d a b first second apart same = let r = total-two xs i j d first second apart in r.2 a b ∙ ap (λ (z : B). op z r.0) same ∙ sym r.1

    -- joined lists, where the end adds nothing to a total
    pub total-append : ((xs : List A) → op end (total op end worth xs) ≡ total op end worth xs)
        → (xs ys : List A) → total op end worth (xs ++ ys) ≡ op (total op end worth xs) (total op end worth ys)
    total-append none [] ys = sym (none ys)
    total-append none (x ∷ xs) ys = ap (op (worth x)) (total-append none xs ys) ∙ sym (assoc (worth x) (total op end worth xs) (total op end worth ys))

  -- one more element that is worth nothing
  pub total-push : (xs : List A) (y : A) → op (worth y) end ≡ end → total op end worth (xs ++ y ∷ []) ≡ total op end worth xs
  total-push [] y none = none
  total-push (x ∷ xs) y none = ap (op (worth x)) (total-push xs y none)

  -- elements that become others that are worth nothing
  pub total-nothing : (xs : List A) (f : A → A) → ((x : A) → op (worth (f x)) end ≡ end) → total op end worth (map f xs) ≡ end
  total-nothing [] f none = refl
  total-nothing (x ∷ xs) f none = ap (op (worth (f x))) (total-nothing xs f none) ∙ none x

-- the total of the parts of a list that is joined of them
pub total-flat_map : {A B C : Type 0} (op : B → B → B) (end : B) (of : List C → B) (parts : A → List C)
    → of [] ≡ end → ((xs ys : List C) → of (xs ++ ys) ≡ op (of xs) (of ys))
    → (xs : List A) → of (flat_map parts xs) ≡ total op end (λ x. of (parts x)) xs
total-flat_map op end of parts none joins [] = none
total-flat_map op end of parts none joins (x ∷ xs) = joins (parts x) (flat_map parts xs) ∙ ap (op (of (parts x))) (total-flat_map op end of parts none joins xs)
