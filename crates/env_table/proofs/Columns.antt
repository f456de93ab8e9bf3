-- Numbers that stand a width apart in a list.
use Rattle.std.proofs.Common.{◌≡◌, ◌≢◌, ◌+◌, ◌-◌, ◌*◌, ◌%◌, ◌<◌, ◌∙◌, ◌⊎◌, inl, inr, nat_eq, true, false, ℕ, ℤ, pos, List, [], length, get_or, slice_set, sym, ap, arith}
use Rattle.std.proofs.Math.Nat.{add-mul, add-mul-mod_self_right, mod-eq_of_lt, mul-le-mul_right, suc-mul}
use Rattle.std.proofs.lemmas.Bool.{cases_Bool, cases_lt}
use Rattle.std.proofs.lemmas.Bool.Decides.{nat_tests}
use Rattle.std.proofs.lemmas.Grind.{get_or-set_at}
use Rattle.std.proofs.lemmas.List.{get_or_default, get_or-set_other}

-- an earlier place is another one
place_before : (from width k n : ℕ) → 0 < width → k < n → from + k * width ≢ from + n * width
place_before from width k n some before same =
    let step = mul-le-mul_right {m = k + 1} {n = n} width (omega (arith, before)) in
    omega (arith, same, some, step, suc-mul k width)

-- a place behind another one
pub next_place : (from width n k : ℕ) → from + n * width + k * width ≡ from + (n + k) * width
next_place from width n k = omega (arith, add-mul n k width)

-- places of two attributes are apart
pub places_apart : (width k a n b : ℕ) → a < width → b < width → a ≢ b → k * width + a ≢ b + n * width
places_apart width k a n b first second other same =
    let both : a + k * width ≡ b + n * width = omega (arith, same) in
    other (
    sym (mod-eq_of_lt first) ∙ sym (add-mul-mod_self_right a k width) ∙ ap (λ m. m % width) both ∙ add-mul-mod_self_right b n width ∙ mod-eq_of_lt second
    )

-- one more number
pub put_more : (xs column : List ℤ) (from width lane n at : ℕ) (v : ℤ) → 0 < width → at ≡ from + n * width → at < length xs → v ≡ get_or column (lane + n) (pos 0)
    → ((k : ℕ) (d : ℤ) → k < n → get_or xs (from + k * width) d ≡ get_or column (lane + k) (pos 0))
    → (k : ℕ) (d : ℤ) → k < n + 1 → get_or (slice_set xs at v) (from + k * width) d ≡ get_or column (lane + k) (pos 0)
put_more xs column from width lane n at v some is inside value before k d lt = split (cases_Bool (nat_eq k n))
  where
    split : (nat_eq k n ≡ true) ⊎ (nat_eq k n ≡ false) → get_or (slice_set xs at v) (from + k * width) d ≡ get_or column (lane + k) (pos 0)
    split (inl same) =
        let here : k ≡ n = grind (arith, nat_tests, same) in
        get_or-set_at xs at (from + k * width) v d (ap (λ m. from + m * width) here ∙ sym is) inside ∙ value ∙ ap (λ m. get_or column (lane + m) (pos 0)) (sym here)
    split (inr other) =
        let earlier : k < n = grind (arith, nat_tests, other, lt) in
        let apart : from + k * width ≢ at = λ same. place_before from width k n some earlier (same ∙ is) in
        get_or-set_other xs at (from + k * width) v d apart ∙ before k d earlier

-- numbers, and then more
pub put_join : (ys zs column : List ℤ) (from width lane n m : ℕ) → 0 < width
    → ((k : ℕ) (d : ℤ) → k < n → get_or ys (from + k * width) d ≡ get_or column (lane + k) (pos 0))
    → ((k : ℕ) (d : ℤ) → k < m → get_or zs (from + n * width + k * width) d ≡ get_or column (lane + n + k) (pos 0))
    → ((i : ℕ) (d : ℤ) → ((k : ℕ) → k < m → i ≢ from + n * width + k * width) → get_or zs i d ≡ get_or ys i d)
    → (k : ℕ) (d : ℤ) → k < n + m → get_or zs (from + k * width) d ≡ get_or column (lane + k) (pos 0)
put_join ys zs column from width lane n m some front back other k d lt = elim (cases_lt k n) [
  | inl early ↦
      other (from + k * width) d (λ j below same. place_before from width k (n + j) some (omega (arith, early)) (same ∙ next_place from width n j)) ∙ front k d early
  | inr late ↦
      let j = k - n in
      let is : n + j ≡ k = omega (arith, late) in
      ap (λ i. get_or zs (from + i * width) d) (sym is)
      ∙ ap (λ i. get_or zs i d) (sym (next_place from width n j))
      ∙ back j d (omega (arith, lt, late))
      ∙ ap (λ i. get_or column i (pos 0)) (omega (arith, late))
]

-- the same of numbers that are taken
pub take_join : (values ys zs : List ℤ) (from width n m : ℕ)
    → ((k : ℕ) (d : ℤ) → k < n → get_or ys k d ≡ get_or values (from + k * width) d)
    → ((k : ℕ) (d : ℤ) → k < m → get_or zs (n + k) d ≡ get_or values (from + n * width + k * width) d)
    → ((i : ℕ) (d : ℤ) → i < n → get_or zs i d ≡ get_or ys i d)
    → (k : ℕ) (d : ℤ) → k < n + m → get_or zs k d ≡ get_or values (from + k * width) d
take_join values ys zs from width n m front back before k d lt = elim (cases_lt k n) [
  | inl early ↦ before k d early ∙ front k d early
  | inr late ↦
      let j = k - n in
      let is : n + j ≡ k = omega (arith, late) in
      ap (λ i. get_or zs i d) (sym is)
      ∙ back j d (omega (arith, lt, late))
      ∙ ap (λ i. get_or values i d) (next_place from width n j)
      ∙ ap (λ i. get_or values (from + i * width) d) is
]

-- one more column
pub column_more : (xs ys : List ℤ) (columns : List (List ℤ)) (column : List ℤ) (from width lane count attr : ℕ) → attr < width → attr < length columns → column ≡ get_or columns attr column
    → ((k : ℕ) (d : ℤ) → k < count → get_or ys (from + attr + k * width) d ≡ get_or column (lane + k) (pos 0))
    → ((i : ℕ) (d : ℤ) → ((k : ℕ) → k < count → i ≢ from + attr + k * width) → get_or ys i d ≡ get_or xs i d)
    → ((k a : ℕ) (d : ℤ) → k < count → a < attr → get_or xs (from + (k * width + a)) d ≡ get_or (get_or columns a []) (lane + k) (pos 0))
    → (k a : ℕ) (d : ℤ) → k < count → a < attr + 1 → get_or ys (from + (k * width + a)) d ≡ get_or (get_or columns a []) (lane + k) (pos 0)
column_more xs ys columns column from width lane count attr narrow inside is put other before k a d below lt = split (cases_Bool (nat_eq a attr))
  where
    split : (nat_eq a attr ≡ true) ⊎ (nat_eq a attr ≡ false) → get_or ys (from + (k * width + a)) d ≡ get_or (get_or columns a []) (lane + k) (pos 0)
    split (inl same) =
        let here : a ≡ attr = grind (arith, nat_tests, same) in
        let place : from + (k * width + a) ≡ from + attr + k * width = omega (arith, here) in
        let list : column ≡ get_or columns a [] = is ∙ get_or_default columns attr column [] inside ∙ ap (λ n. get_or columns n []) (sym here) in
        ap (λ i. get_or ys i d) place ∙ put k d below ∙ ap (λ l. get_or l (lane + k) (pos 0)) list
    split (inr apart_is) =
        let earlier : a < attr = grind (arith, nat_tests, apart_is, lt) in
        other (from + (k * width + a)) d (λ n some same. places_apart width k a n attr (omega (arith, earlier, narrow)) narrow (omega (arith, earlier)) (omega (arith, same))) ∙ before k a d below earlier
