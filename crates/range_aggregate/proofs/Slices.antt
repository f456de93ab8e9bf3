-- Parts of lists: one behind the other, one within another, and the part that a filter keeps.
use Rattle.std.proofs.Common.{◌≡◌, ℕ, ◌+◌, ◌-◌, ◌<◌, ◌≤◌, Bool, true, false, cond, ◌&&◌, List, [], ◌∷◌, ◌++◌, length, take, drop, map, sym, refl, ap, ◌∙◌, arith}
use Rattle.std.specs.Prelude.{slice_range, filter}
use Rattle.std.specs.List.{AllWithin}
use Rattle.std.proofs.Math.Seq.{take-add}
use Rattle.std.proofs.lemmas.List.{take-map, drop-map, drop-take, take-take, drop-drop, length-take, length-drop, get_or-take, get_or-drop, append-nil}
use Rattle.std.proofs.lemmas.List.Edits.{length-between, get_or-between, split_between}
use Rattle.std.proofs.lemmas.List.Elements.{filter-append}
use Rattle.rank_table.proofs.Ranking.{filter_all, filter_none}

module _ {A : Type 0} where
  -- a part is two parts, one behind the other
  pub slice_range_join : (xs : List A) (a b c : ℕ) → a ≤ b → b ≤ c → slice_range xs a c ≡ slice_range xs a b ++ slice_range xs b c
  slice_range_join xs a b c first second =
      let whole : c - a ≡ (b - a) + (c - b) = omega arith in
      let here : a + (b - a) ≡ b = omega arith in
      ap (λ n. take n (drop a xs)) whole
      ∙ take-add (b - a) (c - b) (drop a xs)
      ∙ ap (λ l. slice_range xs a b ++ take (c - b) l) (drop-drop (b - a) a xs ∙ ap (λ n. drop n xs) here)

  pub slice_range_none : (xs : List A) (a b : ℕ) → b ≤ a → slice_range xs a b ≡ []
  slice_range_none xs a b none = let width : b - a ≡ 0 = omega (arith, none) in ap (λ n. take n (drop a xs)) width

  -- a part of a part
  pub slice_range-slice_range : (xs : List A) (a c i j : ℕ) → i ≤ j → a + j ≤ c → slice_range (slice_range xs a c) i j ≡ slice_range xs (a + i) (a + j)
  slice_range-slice_range xs a c i j ordered bound =
      let whole : c - a ≡ i + (c - a - i) = omega arith in
      let width : (a + j) - (a + i) ≡ j - i = omega arith in
      ap (λ n. take (j - i) (drop i (take n (drop a xs)))) whole
      ∙ ap (take (j - i)) (drop-take i (c - a - i) (drop a xs))
      ∙ take-take (j - i) (c - a - i) (drop i (drop a xs)) (omega arith)
      ∙ ap (take (j - i)) (drop-drop i a xs)
      ∙ ap (λ n. take n (drop (a + i) xs)) (sym width)

  pub map-slice_range : {B : Type 0} (f : A → B) (xs : List A) (a b : ℕ) → map f (slice_range xs a b) ≡ slice_range (map f xs) a b
  map-slice_range f xs a b = sym (take-map f (b - a) (drop a xs)) ∙ ap (take (b - a)) (sym (drop-map f a xs))

  -- ---- filters

  both_step : (b : Bool) (q : A → Bool) (x : A) (xs : List A) → cond (b && q x) (x ∷ filter q xs) (filter q xs) ≡ filter q (cond b (x ∷ xs) xs)
  both_step true q x xs = refl
  both_step false q x xs = refl

  -- two tests, one after the other
  pub filter_both : (p q : A → Bool) (xs : List A) → filter (λ x. p x && q x) xs ≡ filter q (filter p xs)
  filter_both p q [] = refl
  filter_both p q (x ∷ xs) = ap (λ l. cond (p x && q x) (x ∷ l) l) (filter_both p q xs) ∙ both_step (p x) q x (filter p xs)

  -- a filter keeps the part within which all pass, where none passes before it and behind it
  pub filter_part : (p : A → Bool) (xs : List A) (i j : ℕ) → i ≤ j → j ≤ length xs
      → AllWithin (λ x. p x ≡ false) xs 0 i → AllWithin (λ x. p x ≡ true) xs i j → AllWithin (λ x. p x ≡ false) xs j (length xs)
      → filter p xs ≡ slice_range xs i j
  filter_part p xs i j ordered bound before within behind =
      let front : filter p (take i xs) ≡ [] =
      filter_none p (take i xs) (λ k d below. let lt : k < i = omega (arith, length-take i xs, below) in ap p (get_or-take i xs k d lt) ∙ before k d (omega arith) lt) in
      let mid : filter p (slice_range xs i j) ≡ slice_range xs i j =
      filter_all p (slice_range xs i j)
      (λ k d below. let lt : i + k < j = omega (arith, length-between xs i j bound, below) in ap p (get_or-between xs i j k d lt) ∙ within (i + k) d (omega arith) lt) in
      let back : filter p (drop j xs) ≡ [] =
      filter_none p (drop j xs) (λ k d below. ap p (get_or-drop j xs k d) ∙ behind (j + k) d (omega arith) (omega (arith, length-drop j xs, below))) in
      ap (filter p) (split_between xs i j ordered)
      ∙ filter-append p (take i xs) (slice_range xs i j ++ drop j xs)
      ∙ ap (λ l. l ++ filter p (slice_range xs i j ++ drop j xs)) front
      ∙ filter-append p (slice_range xs i j) (drop j xs)
      ∙ ap (λ l. filter p (slice_range xs i j) ++ l) back
      ∙ append-nil (filter p (slice_range xs i j)) ∙ mid
