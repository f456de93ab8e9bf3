-- The places of the elements that pass.
use Rattle.std.proofs.Common.{◌≡◌, ℕ, zero, suc, ◌+◌, ◌<◌, Bool, true, false, ◌&&◌, cond, List, [], ◌∷◌, ◌++◌, map, length, get_or, refl, ap, sym, ◌∙◌, arith, length-append}
use Rattle.std.specs.Prelude.{filter, All}
use Rattle.std.specs.List.{range_with_len}
use Rattle.std.proofs.lemmas.List.{append_assoc, get_or-append-add}
use Rattle.std.proofs.lemmas.List.Elements.{All-cons, All-head, All-nil, All-same, All-tail, All-weaker, filter_passes}
use Rattle.std.proofs.lemmas.Bool.{false≢true}
use Rattle.row_groups.specs.Places.{places}

module _ {A : Type 0} where
  -- one element more, at the end
  pub places-push : (p : A → Bool) (xs : List A) (x : A) (place : ℕ) → places p (xs ++ x ∷ []) place ≡ places p xs place ++ cond (p x) ((place + length xs) ∷ []) []
  places-push p [] x place = by (p x)
    where
      by : (b : Bool) → cond b (place ∷ []) [] ≡ cond b ((place + 0) ∷ []) []
      by true = ap (λ (n : ℕ). n ∷ []) (omega arith)
      by false = refl
  places-push p (y ∷ xs) x place =
      let further : (place + 1) + length xs ≡ place + suc (length xs) = omega arith in
      let later : places p (xs ++ x ∷ []) (place + 1) ≡ places p xs (place + 1) ++ cond (p x) ((place + suc (length xs)) ∷ []) [] =
      places-push p xs x (place + 1) ∙ ap (λ (n : ℕ). places p xs (place + 1) ++ cond (p x) (n ∷ []) []) further in
      by (p y) (places p (xs ++ x ∷ []) (place + 1)) (places p xs (place + 1)) (cond (p x) ((place + suc (length xs)) ∷ []) []) later
    where
      by : (b : Bool) (whole front back : List ℕ) → whole ≡ front ++ back → cond b (place ∷ whole) whole ≡ cond b (place ∷ front) front ++ back
      by true whole front back h = ap (λ l. place ∷ l) h
      by false whole front back h = h

  -- each is within
  pub places-within : (p : A → Bool) (xs : List A) (place : ℕ) → All (λ n. n < place + length xs) (places p xs place)
  places-within p [] place = All-nil (λ n. n < place + 0)
  places-within p (x ∷ xs) place =
      let later : All (λ n. n < place + suc (length xs)) (places p xs (place + 1)) =
      All-weaker (λ n. n < (place + 1) + length xs) (λ n. n < place + suc (length xs)) (λ n h. omega (arith, h)) (places p xs (place + 1)) (places-within p xs (place + 1)) in
      by (p x) later
    where
      by : (b : Bool) → All (λ n. n < place + suc (length xs)) (places p xs (place + 1)) → All (λ n. n < place + suc (length xs)) (cond b (place ∷ places p xs (place + 1)) (places p xs (place + 1)))
      by true later = All-cons (λ n. n < place + suc (length xs)) place (places p xs (place + 1)) (omega arith) later
      by false later = later

  -- the elements at them are those that pass
  pub at_places : (p : A → Bool) (pre xs : List A) (d : A) → map (λ n. get_or (pre ++ xs) n d) (places p xs (length pre)) ≡ filter p xs
  at_places p pre [] d = refl
  at_places p pre (x ∷ xs) d =
      let next : length (pre ++ x ∷ []) ≡ length pre + 1 = length-append pre (x ∷ []) in
      let later : map (λ n. get_or (pre ++ x ∷ xs) n d) (places p xs (length pre + 1)) ≡ filter p xs =
      ap (λ l. map (λ n. get_or l n d) (places p xs (length pre + 1))) (sym (append_assoc pre (x ∷ []) xs))
      ∙ ap (λ n. map (λ m. get_or (pre ++ x ∷ [] ++ xs) m d) (places p xs n)) (sym next)
      ∙ at_places p (pre ++ x ∷ []) xs d in
      let here : get_or (pre ++ x ∷ xs) (length pre) d ≡ x =
      ap (λ n. get_or (pre ++ x ∷ xs) n d) (omega arith) ∙ get_or-append-add pre (x ∷ xs) 0 d in
      by (p x) here later
    where
      by : (b : Bool) → get_or (pre ++ x ∷ xs) (length pre) d ≡ x → map (λ n. get_or (pre ++ x ∷ xs) n d) (places p xs (length pre + 1)) ≡ filter p xs
          → map (λ n. get_or (pre ++ x ∷ xs) n d) (cond b (length pre ∷ places p xs (length pre + 1)) (places p xs (length pre + 1))) ≡ cond b (x ∷ filter p xs) (filter p xs)
      by true here later = λ i. here i ∷ later i
      by false here later = later

  pub places-map : {B : Type 0} (f : B → A) (p : A → Bool) (xs : List B) (place : ℕ) → places p (map f xs) place ≡ places (λ x. p (f x)) xs place
  places-map f p [] place = refl
  places-map f p (x ∷ xs) place = ap (λ l. cond (p (f x)) (place ∷ l) l) (places-map f p xs (place + 1))

module _ {A : Type 0} where
  -- of the places of those that pass one test, those at which another passes are the places of both
  pub filter-places : (q p : A → Bool) (pre xs : List A) (d : A) → filter (λ n. p (get_or (pre ++ xs) n d)) (places q xs (length pre)) ≡ places (λ x. q x && p x) xs (length pre)
  filter-places q p pre [] d = refl
  filter-places q p pre (x ∷ xs) d =
      let next : length (pre ++ x ∷ []) ≡ length pre + 1 = length-append pre (x ∷ []) in
      let later : filter (λ n. p (get_or (pre ++ x ∷ xs) n d)) (places q xs (length pre + 1)) ≡ places (λ y. q y && p y) xs (length pre + 1) =
      ap (λ l. filter (λ n. p (get_or l n d)) (places q xs (length pre + 1))) (sym (append_assoc pre (x ∷ []) xs))
      ∙ ap (λ (n : ℕ). filter (λ m. p (get_or (pre ++ x ∷ [] ++ xs) m d)) (places q xs n)) (sym next)
      ∙ filter-places q p (pre ++ x ∷ []) xs d
      ∙ ap (places (λ y. q y && p y) xs) next in
      let here : get_or (pre ++ x ∷ xs) (length pre) d ≡ x =
      ap (λ n. get_or (pre ++ x ∷ xs) n d) (omega arith) ∙ get_or-append-add pre (x ∷ xs) 0 d in
      by (q x) here later
    where
      by : (b : Bool) → get_or (pre ++ x ∷ xs) (length pre) d ≡ x
          → filter (λ n. p (get_or (pre ++ x ∷ xs) n d)) (places q xs (length pre + 1)) ≡ places (λ y. q y && p y) xs (length pre + 1)
          → filter (λ n. p (get_or (pre ++ x ∷ xs) n d)) (cond b (length pre ∷ places q xs (length pre + 1)) (places q xs (length pre + 1)))
          ≡ cond (b && p x) (length pre ∷ places (λ y. q y && p y) xs (length pre + 1)) (places (λ y. q y && p y) xs (length pre + 1))
      by true here later = λ i. cond (p (here i)) (length pre ∷ later i) (later i)
      by false here later = later

  -- tests that agree on a list have the same places
  pub places_agree : (p q : A → Bool) (xs : List A) (place : ℕ) → All (λ x. p x ≡ q x) xs → places p xs place ≡ places q xs place
  places_agree p q [] place all = refl
  places_agree p q (x ∷ xs) place all =
      ap (λ b. cond b (place ∷ places p xs (place + 1)) (places p xs (place + 1))) (All-head (λ y. p y ≡ q y) x xs all)
      ∙ ap (λ l. cond (q x) (place ∷ l) l) (places_agree p q xs (place + 1) (All-tail (λ y. p y ≡ q y) x xs all))

  pub all_places : (xs : List A) (place : ℕ) → range_with_len place (length xs) ≡ places (λ x. true) xs place
  all_places [] place = refl
  all_places (x ∷ xs) place = ap (λ l. place ∷ l) (all_places xs (place + 1))

  -- where no element passes
  pub no_place : (p : A → Bool) (xs : List A) (place : ℕ) → All (λ x. p x ≡ false) xs → places p xs place ≡ []
  no_place p [] place all = refl
  no_place p (x ∷ xs) place all =
      ap (λ b. cond b (place ∷ places p xs (place + 1)) (places p xs (place + 1))) (All-head (λ y. p y ≡ false) x xs all)
      ∙ no_place p xs (place + 1) (All-tail (λ y. p y ≡ false) x xs all)

module _ {A : Type 0} where
  -- an element that passes has its place among the places
  pub place_in : (p : A → Bool) (xs : List A) (place i : ℕ) (d : A) → i < length xs → p (get_or xs i d) ≡ true
      → (k : ℕ) × (k < length (places p xs place)) × ((e : ℕ) → get_or (places p xs place) k e ≡ place + i)
  place_in p [] place i d inside passes = absurd (omega (arith, inside))
  place_in p (x ∷ xs) place zero d inside passes = by (p x) passes
    where
      by : (b : Bool) → b ≡ true → (k : ℕ) × (k < length (cond b (place ∷ places p xs (place + 1)) (places p xs (place + 1)))) × ((e : ℕ) → get_or (cond b (place ∷ places p xs (place + 1)) (places p xs (place + 1))) k e ≡ place + 0)
      by true h = (0, omega arith, λ e. omega arith)
      by false h = absurd (false≢true h)
  place_in p (x ∷ xs) place (suc i) d inside passes =
      let later = place_in p xs (place + 1) i d (omega (arith, inside)) passes in
      by (p x) later
    where
      further : (place + 1) + i ≡ place + suc i
      further = omega arith

      by : (b : Bool) → (k : ℕ) × (k < length (places p xs (place + 1))) × ((e : ℕ) → get_or (places p xs (place + 1)) k e ≡ (place + 1) + i)
          → (k : ℕ) × (k < length (cond b (place ∷ places p xs (place + 1)) (places p xs (place + 1)))) × ((e : ℕ) → get_or (cond b (place ∷ places p xs (place + 1)) (places p xs (place + 1))) k e ≡ place + suc i)
      by true later = (suc later.0, omega (arith, later.1), λ e. later.2 e ∙ further)
      by false later = (later.0, later.1, λ e. later.2 e ∙ further)

  -- each place is that of an element that passes
  pub places_pass : (p : A → Bool) (pre xs : List A) (d : A) → All (λ n. p (get_or (pre ++ xs) n d) ≡ true) (places p xs (length pre))
  places_pass p pre xs d =
      let kept = All-same (λ n. p (get_or (pre ++ xs) n d) ≡ true) (places p xs (length pre)) (filter (λ n. p (get_or (pre ++ xs) n d)) (places p xs (length pre)))
      (sym (filter-places p p pre xs d ∙ places_agree (λ x. p x && p x) p xs (length pre) (λ k e inside. twice (p (get_or xs k e))))) in
      kept (filter_passes (λ n. p (get_or (pre ++ xs) n d)) (places p xs (length pre)))
    where
      twice : (b : Bool) → (b && b) ≡ b
      twice true = refl
      twice false = refl
