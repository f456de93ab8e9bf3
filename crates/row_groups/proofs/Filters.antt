-- Filters and maps of lists.
use Rattle.std.proofs.Common.{◌≡◌, Bool, true, false, cond, List, [], ◌∷◌, map, refl, ap, ◌∙◌}
use Rattle.std.specs.Prelude.{filter, All}
use Rattle.std.proofs.lemmas.List.Elements.{All-head, All-tail}

module _ {A : Type 0} where
  -- two tests that agree at each element of a list keep the same of it
  pub filter_agree_on : (p q : A → Bool) (xs : List A) → All (λ x. p x ≡ q x) xs → filter p xs ≡ filter q xs
  filter_agree_on p q [] all = refl
  filter_agree_on p q (x ∷ xs) all =
      ap (λ b. cond b (x ∷ filter p xs) (filter p xs)) (All-head (λ y. p y ≡ q y) x xs all)
      ∙ ap (λ l. cond (q x) (x ∷ l) l) (filter_agree_on p q xs (All-tail (λ y. p y ≡ q y) x xs all))

  pub filter-map : {B : Type 0} (f : B → A) (p : A → Bool) (xs : List B) → filter p (map f xs) ≡ map f (filter (λ x. p (f x)) xs)
  filter-map f p [] = refl
  filter-map f p (x ∷ xs) = ap (λ l. cond (p (f x)) (f x ∷ l) l) (filter-map f p xs) ∙ by (p (f x))
    where
      by : (b : Bool) → cond b (f x ∷ map f (filter (λ y. p (f y)) xs)) (map f (filter (λ y. p (f y)) xs)) ≡ map f (cond b (x ∷ filter (λ y. p (f y)) xs) (filter (λ y. p (f y)) xs))
      by true = refl
      by false = refl

  pub map-map : {B C : Type 0} (f : A → B) (g : B → C) (xs : List A) → map g (map f xs) ≡ map (λ x. g (f x)) xs
  map-map f g [] = refl
  map-map f g (x ∷ xs) = ap (λ l. g (f x) ∷ l) (map-map f g xs)
