-- Lists of numbers of which each test keeps as many are one list in another order.
use Rattle.std.proofs.Common.{◌≡◌, ℕ, suc, ◌<◌, ◌≤◌, ◌==◌, Bool, true, false, cond, List, [], ◌∷◌, length, get_or, refl, ap, sym, ◌∙◌, subst, arith}
use Rattle.std.specs.Prelude.{filter}
use Rattle.std.specs.List.{remove}
use Rattle.std.specs.List.Sorted.{IsPermutation}
use Rattle.std.proofs.lemmas.Bool.{eq-eqb, eqb-true}
use Rattle.std.proofs.lemmas.List.Sorted.{length_permutation, IsPermutation-cons, IsPermutation-refl, IsPermutation-remove, IsPermutation-sym, IsPermutation-trans}
use Rattle.sgl_values.proofs.Permutations.{IsPermutation-filter}

-- each test keeps as many
abbrev pub AreAsMany : List ℕ → List ℕ → Type 0
AreAsMany xs ys = (p : ℕ → Bool) → length (filter p xs) ≡ length (filter p ys)

-- so it does of a list in another order
pub many_same : (xs ys : List ℕ) → IsPermutation xs ys → AreAsMany xs ys
many_same xs ys moved = λ p. sym (length_permutation (filter p xs) (filter p ys) (IsPermutation-filter p xs ys moved))

pub none_left : (xs : List ℕ) → length (filter (λ n. true) xs) ≡ 0 → xs ≡ []
none_left [] none = refl
none_left (x ∷ xs) none = absurd (omega (arith, none))

-- where a test keeps some, there is one that passes
some-passes : (p : ℕ → Bool) (xs : List ℕ) → 1 ≤ length (filter p xs) → (k : ℕ) × (k < length xs) × ((d : ℕ) → p (get_or xs k d) ≡ true)
some-passes p [] some = absurd (omega (arith, some))
some-passes p (x ∷ xs) some = by (p x) refl (some-passes p xs) some
  where
    by : (b : Bool) → p x ≡ b → (1 ≤ length (filter p xs) → (k : ℕ) × (k < length xs) × ((d : ℕ) → p (get_or xs k d) ≡ true))
        → 1 ≤ length (cond b (x ∷ filter p xs) (filter p xs)) → (k : ℕ) × (k < length (x ∷ xs)) × ((d : ℕ) → p (get_or (x ∷ xs) k d) ≡ true)
    by true is found some = (0, omega arith, λ d. is)
    by false is found some = let later = found some in (suc later.0, omega (arith, later.1), later.2)

fewer : (b : Bool) (x : ℕ) (xs ys : List ℕ) → length (cond b (x ∷ xs) xs) ≡ length (cond b (x ∷ ys) ys) → length xs ≡ length ys
fewer true x xs ys same = omega (arith, same)
fewer false x xs ys same = same

pub same_counts : (xs ys : List ℕ) → AreAsMany xs ys → IsPermutation xs ys
same_counts [] ys same = subst (IsPermutation []) (sym (none_left ys (sym (same (λ n. true))))) (IsPermutation-refl [])
same_counts (x ∷ xs) ys same =
    let is : (x == x) ≡ true = eq-eqb x x refl in
    let first : length (filter (λ n. x == n) (x ∷ xs)) ≡ suc (length (filter (λ n. x == n) xs)) =
    ap (λ b. length (cond b (x ∷ filter (λ n. x == n) xs) (filter (λ n. x == n) xs))) is in
    let there = some-passes (λ n. x == n) ys (omega (arith, first, same (λ n. x == n))) in
    let rest : List ℕ = remove ys there.0 in
    let taken : IsPermutation ys (x ∷ rest) = IsPermutation-remove ys there.0 x there.1 (eqb-true x (get_or ys there.0 x) (there.2 x)) in
    let others : AreAsMany xs rest = λ p. fewer (p x) x (filter p xs) (filter p rest) (same p ∙ many_same ys (x ∷ rest) taken p) in
    IsPermutation-trans (x ∷ xs) (x ∷ rest) ys (IsPermutation-cons x xs rest (same_counts xs rest others)) (IsPermutation-sym ys (x ∷ rest) taken)
