-- What is made for each of some numbers, and gathered where all of it is made.
use Rattle.std.proofs.Common.{◌≡◌, ℕ, zero, suc, ◌+◌, ◌<◌, List, [], ◌∷◌, map, length, get_or, Result, Ok, Err, refl, sym, subst, arith}
use Rattle.std.specs.Prelude.{Contains, IfOk, MatchResult}
use Rattle.std.specs.List.{AllZip, range_with_len}

-- the result for a number, which meets what is made for it
abbrev pub IsMade : {A E : Type 0} → (ℕ → A → Type 0) → ℕ → Result A E → Type 0
IsMade P number made = IfOk made (P number)

module _ {A : Type 0} (E : Type 0) (P : ℕ → A → Type 0) where
  all_made : (ns : List ℕ) (items : List A) → AllZip (λ n (made : Result A E). IsMade P n made) ns (map Ok items) → AllZip P ns items
  all_made [] [] all = all
  all_made [] (one ∷ items) all = absurd all
  all_made (n ∷ ns) [] all = absurd all
  all_made (n ∷ ns) (one ∷ items) all = (all.0, all_made ns items all.1)

module _ {A E : Type 0} (P : ℕ → A → Type 0) where
  -- what the lists that may be made meet holds of the one that is
  pub gathered : {V : Type 0} (items_of : V → List A) (Q : List A → Type 0) (ns : List ℕ) (xs : List (Result A E)) (made : Result V E)
      → ((items : List A) → AllZip P ns items → Q items) → AllZip (IsMade P) ns xs
      → MatchResult made (λ v. (items : List A) × (xs ≡ map Ok items) × (items_of v ≡ items)) (λ e. Contains xs (Err e))
      → IfOk made (λ v. Q (items_of v))
  gathered items_of Q ns xs (Ok v) then all h = subst Q (sym h.2) (then h.0 (all_made E P ns h.0 (subst (AllZip (IsMade P) ns) h.1 all)))
  gathered items_of Q ns xs (Err e) then all h = tt

module _ {A : Type 0} (P : ℕ → A → Type 0) where
  -- of neighbouring numbers each has its place
  zipped : (start count : ℕ) (items : List A) → AllZip P (range_with_len start count) items
      → (length items ≡ count) × ((k : ℕ) (d : A) → k < count → P (start + k) (get_or items k d))
  zipped start zero [] all = (refl, λ k d below. absurd (omega (arith, below)))
  zipped start zero (one ∷ items) all = absurd all
  zipped start (suc count) [] all = absurd all
  zipped start (suc count) (one ∷ items) all =
      let later = zipped (start + 1) count items all.1 in
      (omega (arith, later.0), at later.1)
    where
      at : ((k : ℕ) (d : A) → k < count → P (start + 1 + k) (get_or items k d)) → (k : ℕ) (d : A) → k < suc count → P (start + k) (get_or (one ∷ items) k d)
      at later zero d below =
          let same : start ≡ start + 0 = omega arith in
          subst (λ n. P n one) same all.0
      at later (suc k) d below =
          let same : start + 1 + k ≡ start + suc k = omega arith in
          subst (λ n. P n (get_or items k d)) same (later k d (omega (arith, below)))

  -- one of the first numbers stands in its own place
  pub each_made : (count : ℕ) (items : List A) → AllZip P (range_with_len 0 count) items
      → (length items ≡ count) × ((k : ℕ) (d : A) → k < count → P k (get_or items k d))
  each_made count items all =
      let both = zipped 0 count items all in (
        both.0,
        λ k d below.
            let same : 0 + k ≡ k = omega arith in
            subst (λ n. P n (get_or items k d)) same (both.1 k d below),
      )
