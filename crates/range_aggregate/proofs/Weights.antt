-- How many points pass a test, and what they weigh: of lists joined, and in any order.
use Rattle.std.proofs.Common.{◌≡◌, ℕ, ℤ, pos, ◌+◌, ◌-◌, ◌<◌, ◌≤◌, ◌+ℤ◌, Bool, true, false, cond, List, [], ◌∷◌, ◌++◌, length, get_or, take, inl, inr, sym, refl, ap, ◌∙◌, arith}
use Rattle.std.specs.Prelude.{slice_range, filter}
use Rattle.std.specs.List.Sorted.{IsPermutation}
use Rattle.std.proofs.Math.Seq.{take-add}
use Rattle.std.proofs.lemmas.Int.{ints}
use Rattle.std.proofs.lemmas.List.{take_more, get_or_append_left, get_or_push}
use Rattle.std.proofs.lemmas.Bool.{cases_lt}
use Rattle.std.proofs.lemmas.List.Sums.{length-filter}
use Rattle.std.proofs.lemmas.List.Sorted.{sum_by-IsPermutation}
use Rattle.sgl_values.specs.Totals.{total}
use Rattle.sgl_values.proofs.Permutations.{total-IsPermutation}
use Rattle.range_aggregate.specs.Boxes.{weight_of}
use Rattle.range_aggregate.specs.declared.point.Point.{Point}

pub weight_of-append : (xs ys : List Point) → weight_of (xs ++ ys) ≡ weight_of xs +ℤ weight_of ys
weight_of-append [] ys = omega (arith, ints)
weight_of-append (x ∷ xs) ys = omega (arith, ints, weight_of-append xs ys)

-- the weight of a part is the difference of the weights of two fronts
pub weight_of-slice_range : (xs : List Point) (a b : ℕ) → a ≤ b → weight_of (take b xs) ≡ weight_of (take a xs) +ℤ weight_of (slice_range xs a b)
weight_of-slice_range xs a b ordered =
    let whole : b ≡ a + (b - a) = omega arith in
    ap (λ n. weight_of (take n xs)) whole ∙ ap weight_of (take-add a (b - a) xs) ∙ weight_of-append (take a xs) (slice_range xs a b)

-- the weight of one point more
pub weight_of_more : (xs : List Point) (i : ℕ) (x : Point) → i < length xs → x ≡ get_or xs i x → weight_of (take (i + 1) xs) ≡ weight_of (take i xs) +ℤ x.weight
weight_of_more xs i x below here =
    let single : weight_of (get_or xs i x ∷ []) ≡ x.weight = omega (arith, ints, ap (λ (y : Point). y.weight) here) in
    ap weight_of (take_more xs i x below) ∙ weight_of-append (take i xs) (get_or xs i x ∷ []) ∙ ap (λ z. weight_of (take i xs) +ℤ z) single

-- a list of the values of a function, one value longer
pub values_push : (f : ℕ → ℤ) (zs : List ℤ) (i : ℕ) (z : ℤ) → length zs ≡ i → ((k : ℕ) (d : ℤ) → k < i → get_or zs k d ≡ f k) → z ≡ f i
    → (k : ℕ) (d : ℤ) → k ≤ i → get_or (zs ++ z ∷ []) k d ≡ f k
values_push f zs i z long each last k d bound = elim (cases_lt k i) [
  | inl lt ↦ get_or_append_left zs (z ∷ []) d k (omega (arith, long, lt)) ∙ each k d lt
  | inr le ↦ let here : k ≡ i = omega (arith, bound, le) in get_or_push zs z d k (omega (arith, long, here)) ∙ last ∙ ap f (sym here)
]

module _ (p : Point → Bool) where
  -- a point that fails weighs nothing
  abbrev counted : Point → ℤ
  counted x = cond (p x) x.weight (pos 0)

  one_more : (b : Bool) (x : Point) (xs : List Point) → weight_of (cond b (x ∷ xs) xs) ≡ cond b x.weight (pos 0) +ℤ weight_of xs
  one_more true x xs = refl
  one_more false x xs = omega (arith, ints)

  weight_of-filter : (xs : List Point) → weight_of (filter p xs) ≡ total ◌+ℤ◌ (pos 0) counted xs
  weight_of-filter [] = refl
  weight_of-filter (x ∷ xs) = one_more (p x) x (filter p xs) ∙ ap (λ z. counted x +ℤ z) (weight_of-filter xs)

  -- what passes weighs the same in any order
  pub weight_of-filter-IsPermutation : (xs ys : List Point) → IsPermutation xs ys → weight_of (filter p xs) ≡ weight_of (filter p ys)
  weight_of-filter-IsPermutation xs ys same =
      weight_of-filter xs
      ∙ sym (total-IsPermutation ◌+ℤ◌ (pos 0) counted (λ a b c. omega (arith, ints)) (λ a b. omega (arith, ints)) xs ys same)
      ∙ sym (weight_of-filter ys)

-- as many pass in any order
pub length-filter-IsPermutation : {A : Type 0} (p : A → Bool) (xs ys : List A) → IsPermutation xs ys → length (filter p xs) ≡ length (filter p ys)
length-filter-IsPermutation p xs ys same =
    length-filter p xs ∙ sym (sum_by-IsPermutation (λ x. cond (p x) 1 0) xs ys same) ∙ sym (length-filter p ys)
