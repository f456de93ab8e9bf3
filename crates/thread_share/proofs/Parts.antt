-- What holds at each place of two parts of a list holds at each place of the list.
use Rattle.std.proofs.Common.{◌≡◌, ◌+◌, ◌-◌, ◌<◌, ◌++◌, ℕ, List, length, get_or, ap, sym, subst, refl, ◌∙◌, inl, inr, arith}
use Rattle.std.proofs.lemmas.Bool.{cases_lt}
use Rattle.std.proofs.lemmas.List.{get_or_append_left, get_or-append-add, length-append}

module _ {X : Type 0} (P : ℕ → X → Type 0) (base : ℕ) (all xs ys : List X) (cut : all ≡ xs ++ ys) where
  -- in front
  pub at_first : ((k : ℕ) (d : X) → k < length all → P (base + k) (get_or all k d)) → (k : ℕ) (d : X) → k < length xs → P (base + k) (get_or xs k d)
  at_first each k d below =
      subst (P (base + k)) (ap (λ l. get_or l k d) cut ∙ get_or_append_left xs ys d k below) (each k d (omega (arith, below, ap length cut, length-append xs ys)))

  -- and behind that
  pub at_rest : (up : ℕ) → up ≡ base + length xs → ((k : ℕ) (d : X) → k < length all → P (base + k) (get_or all k d)) → (k : ℕ) (d : X) → k < length ys → P (up + k) (get_or ys k d)
  at_rest up from each k d below =
      let same : base + (length xs + k) ≡ up + k = omega (arith, from) in
      subst (λ i. P i (get_or ys k d)) same
      (subst (P (base + (length xs + k))) (ap (λ l. get_or l (length xs + k) d) cut ∙ get_or-append-add xs ys k d) (each (length xs + k) d (omega (arith, below, ap length cut, length-append xs ys))))

moved : {X : Type 0} (R : ℕ → X → X → Type 0) {i j : ℕ} {x x' y y' : X} → i ≡ j → x ≡ x' → y ≡ y' → R i x y → R j x' y'
moved R {i} {j} {x} {x'} {y} {y'} a b c r = subst (λ k. R k x' y') a (subst (λ u. R i u y') b (subst (R i x) c r))

module _ {X : Type 0} (R : ℕ → X → X → Type 0) (base : ℕ) (all xs ys xs' ys' : List X) (cut : all ≡ xs ++ ys) where
  -- what both parts became is what the list became
  pub at_both : (up : ℕ) → up ≡ base + length xs → length xs' ≡ length xs
      → ((k : ℕ) (d : X) → k < length xs → R (base + k) (get_or xs k d) (get_or xs' k d))
      → ((k : ℕ) (d : X) → k < length ys → R (up + k) (get_or ys k d) (get_or ys' k d))
      → (k : ℕ) (d : X) → k < length all → R (base + k) (get_or all k d) (get_or (xs' ++ ys') k d)
  at_both up from same first rest k d below = elim (cases_lt k (length xs)) [
    | inl low ↦ moved R refl (sym (ap (λ l. get_or l k d) cut ∙ get_or_append_left xs ys d k low))
        (sym (get_or_append_left xs' ys' d k (omega (arith, low, same)))) (first k d low)
    | inr high ↦
        let n = k - length xs in
        let whole : length xs + n ≡ k = omega (arith, high) in
        let here : up + n ≡ base + k = omega (arith, from, whole) in
        let left : get_or all k d ≡ get_or ys n d = ap (λ l. get_or l k d) cut ∙ ap (λ i. get_or (xs ++ ys) i d) (sym whole) ∙ get_or-append-add xs ys n d in
        let made : length xs' + n ≡ k = omega (arith, whole, same) in
        let right : get_or (xs' ++ ys') k d ≡ get_or ys' n d = ap (λ i. get_or (xs' ++ ys') i d) (sym made) ∙ get_or-append-add xs' ys' n d in
        moved R here (sym left) (sym right) (rest n d (omega (arith, below, whole, ap length cut, length-append xs ys)))
  ]
