-- Numbers of keys, one key more at a time.
use Rattle.std.proofs.Common.{◌≡◌, ℕ, suc, ℤ, ◌+◌, ◌<◌, Bool, true, false, cond, List, [], ◌∷◌, ◌++◌, map, Option, Some, refl, ap, sym, ◌∙◌, arith}
use Rattle.std.specs.Prelude.{All, IsSome, ◌<ℤ◌, ◌⊎◌}
use Rattle.std.specs.Option.{is_some, unwrap_or}
use Rattle.std.proofs.Common.{inl, inr}
use Rattle.std.proofs.lemmas.Cmp.{tied_itself, lists_total, int_cmp_total}
use Rattle.std.specs.BTreeMap.{BTreeMap, get, btree_map_len}
use Rattle.std.specs.Cmp.Lexicographic.{slice_cmp}
use Rattle.std.specs.Ordering.{int_cmp, is_eq, ordering_then, MatchOrdering}
use Rattle.std.specs.declared.cmp.Ordering.{Ordering}
use Rattle.std.specs.declared.cmp.Ordering.TheVariants.{Less, Equal, Greater}
use Rattle.std.proofs.lemmas.Bool.{false≢true}
use Rattle.std.proofs.lemmas.Cmp.{int_ranked}
use Rattle.std.proofs.lemmas.List.{length_push, map_push}
use Rattle.std.proofs.lemmas.List.Elements.{All-push, All-weaker}
use Rattle.row_groups.specs.Keys.{IsNumbering}
use Rattle.row_groups.specs.Numbered.{KeepsNumbers}
use Rattle.row_groups.proofs.Holding.{number_in, some_is}

level : (x y : ℤ) (o rest : Ordering) → MatchOrdering o (x <ℤ y) (x ≡ y) (y <ℤ x) → is_eq (ordering_then o rest) ≡ true → (x ≡ y) × (is_eq rest ≡ true)
level x y Less rest h e = absurd (false≢true e)
level x y Equal rest h e = (h, e)
level x y Greater rest h e = absurd (false≢true e)

-- keys that compare as equal are the same
pub same_keys : (xs ys : List ℤ) → is_eq (slice_cmp int_cmp xs ys) ≡ true → xs ≡ ys
same_keys [] [] e = refl
same_keys [] (y ∷ ys) e = absurd (false≢true e)
same_keys (x ∷ xs) [] e = absurd (false≢true e)
same_keys (x ∷ xs) (y ∷ ys) e =
    let parts = level x y (int_cmp x y) (slice_cmp int_cmp xs ys) (int_ranked x y (int_cmp x y) refl) e in
    λ i. parts.0 i ∷ same_keys xs ys parts.1 i

some_cond : (b : Bool) (n : ℕ) (o : Option ℕ) → is_some o ≡ true → is_some (cond b (Some n) o) ≡ true
some_cond true n o h = refl
some_cond false n o h = h

abbrev NewPlace : (key q : List ℤ) (count number : ℕ) → Option ℕ → Type 0
NewPlace key q count number o = ((key ≡ q) × (number ≡ count)) ⊎ (o ≡ Some number)

-- the number of a key is the new one, or one from before
placed : (key q : List ℤ) (count number : ℕ) (o : Option ℕ) (b : Bool) → is_eq (slice_cmp int_cmp key q) ≡ b → cond b (Some count) o ≡ Some number → NewPlace key q count number o
placed key q count number o true e h = inl (same_keys key q e, cc)
placed key q count number o false e h = inr h

module _ (old new : BTreeMap (List ℤ) ℕ) (keys : List (List ℤ)) (key : List ℤ)
    (updates : (q : List ℤ) → get (slice_cmp int_cmp) new q ≡ cond (is_eq (slice_cmp int_cmp key q)) (Some (btree_map_len old)) (get (slice_cmp int_cmp) old q))
    (longer : btree_map_len new ≡ btree_map_len old + 1) (before : IsNumbering old keys) where
  given : (q : List ℤ) (number : ℕ) → get (slice_cmp int_cmp) new q ≡ Some number → NewPlace key q (btree_map_len old) number (get (slice_cmp int_cmp) old q)
  given q number h = placed key q (btree_map_len old) number (get (slice_cmp int_cmp) old q) (is_eq (slice_cmp int_cmp key q)) refl (sym (updates q) ∙ h)

  here : IsSome (get (slice_cmp int_cmp) new key)
  here =
      let same : is_eq (slice_cmp int_cmp key key) ≡ true = ap is_eq (tied_itself (lists_total int_cmp_total) key) in
      ap is_some (updates key) ∙ ap (λ b. is_some (cond b (Some (btree_map_len old)) (get (slice_cmp int_cmp) old key))) same

  -- two keys with one number
  one : (k o : List ℤ) (number : ℕ) → NewPlace key k (btree_map_len old) number (get (slice_cmp int_cmp) old k) → NewPlace key o (btree_map_len old) number (get (slice_cmp int_cmp) old o) → k ≡ o
  one k o number (inl a) (inl b) = sym a.0 ∙ b.0
  one k o number (inl a) (inr b) = absurd (omega (arith, before.below o number b, a.1))
  one k o number (inr a) (inl b) = absurd (omega (arith, before.below k number a, b.1))
  one k o number (inr a) (inr b) = before.apart k o number a b

  low : (q : List ℤ) (number : ℕ) → NewPlace key q (btree_map_len old) number (get (slice_cmp int_cmp) old q) → number < btree_map_len new
  low q number (inl a) = omega (arith, a.1, longer)
  low q number (inr a) = omega (arith, before.below q number a, longer)

  pub numbered_more : IsNumbering new (keys ++ key ∷ [])
  numbered_more = record {
    numbered = All-push (λ k. IsSome (get (slice_cmp int_cmp) new k)) keys key
        (All-weaker (λ k. IsSome (get (slice_cmp int_cmp) old k)) (λ k. IsSome (get (slice_cmp int_cmp) new k))
        (λ k h. ap is_some (updates k) ∙ some_cond (is_eq (slice_cmp int_cmp key k)) (btree_map_len old) (get (slice_cmp int_cmp) old k) h) keys before.numbered) here;
    few = omega (arith, before.few, longer, length_push keys key);
    below = λ q number h. low q number (given q number h);
    apart = λ k o number h g. one k o number (given k number h) (given o number g);
  }

-- a key that has a number already
pub numbered_same : (numbers : BTreeMap (List ℤ) ℕ) (keys : List (List ℤ)) (key : List ℤ) → IsSome (get (slice_cmp int_cmp) numbers key) → IsNumbering numbers keys → IsNumbering numbers (keys ++ key ∷ [])
numbered_same numbers keys key here before = record {
  numbered = All-push (λ k. IsSome (get (slice_cmp int_cmp) numbers k)) keys key before.numbered here;
  few = omega (arith, before.few, length_push keys key);
  below = before.below;
  apart = before.apart;
}

pub numbered_new : (old new : BTreeMap (List ℤ) ℕ) (keys : List (List ℤ)) (key : List ℤ) (next : ℕ) (was : Option ℕ) → next ≡ btree_map_len old
    → ((q : List ℤ) → get (slice_cmp int_cmp) new q ≡ cond (is_eq (slice_cmp int_cmp key q)) (Some next) (get (slice_cmp int_cmp) old q))
    → was ≡ get (slice_cmp int_cmp) old key → btree_map_len new ≡ btree_map_len old + cond (is_some was) 0 1 → false ≡ is_some (get (slice_cmp int_cmp) old key)
    → IsNumbering old keys → IsNumbering new (keys ++ key ∷ [])
numbered_new old new keys key next was is updates before longer absent numbering =
    numbered_more old new keys key (λ q. updates q ∙ ap (λ (n : ℕ). cond (is_eq (slice_cmp int_cmp key q)) (Some n) (get (slice_cmp int_cmp) old q)) is)
    (longer ∙ ap (λ b. btree_map_len old + cond b 0 1) (ap is_some before ∙ sym absent)) numbering

-- a key that had a number is not the new one, which had none
kept : (key q : List ℤ) (number : ℕ) (now old : Option ℕ) (next : ℕ) (b : Bool) → is_eq (slice_cmp int_cmp key q) ≡ b → now ≡ cond b (Some next) old → old ≡ Some number
    → (key ≡ q → false ≡ is_some old) → now ≡ Some number
kept key q number now old next true e is was absent = absurd (false≢true (absent (same_keys key q e) ∙ ap is_some was))
kept key q number now old next false e is was absent = is ∙ was

pub keeps_numbers : (old new : BTreeMap (List ℤ) ℕ) (key : List ℤ) (next : ℕ)
    → ((q : List ℤ) → get (slice_cmp int_cmp) new q ≡ cond (is_eq (slice_cmp int_cmp key q)) (Some next) (get (slice_cmp int_cmp) old q))
    → false ≡ is_some (get (slice_cmp int_cmp) old key) → KeepsNumbers old new
keeps_numbers old new key next updates absent q number was =
    kept key q number (get (slice_cmp int_cmp) new q) (get (slice_cmp int_cmp) old q) next (is_eq (slice_cmp int_cmp key q)) refl (updates q) was
    (λ same. absent ∙ ap (λ k. is_some (get (slice_cmp int_cmp) old k)) same)

-- the number that was given to a key
pub number_given : (old new : BTreeMap (List ℤ) ℕ) (key : List ℤ) (next : ℕ)
    → ((q : List ℤ) → get (slice_cmp int_cmp) new q ≡ cond (is_eq (slice_cmp int_cmp key q)) (Some next) (get (slice_cmp int_cmp) old q)) → get (slice_cmp int_cmp) new key ≡ Some next
number_given old new key next updates =
    let same : is_eq (slice_cmp int_cmp key key) ≡ true = ap is_eq (tied_itself (lists_total int_cmp_total) key) in
    updates key ∙ ap (λ b. cond b (Some next) (get (slice_cmp int_cmp) old key)) same

module _ (old new : BTreeMap (List ℤ) ℕ) (keeps : KeepsNumbers old new) where
  -- keys that had numbers have the same
  same_numbers : (keys : List (List ℤ)) → All (λ key. IsSome (get (slice_cmp int_cmp) old key)) keys → map (number_in old) keys ≡ map (number_in new) keys
  same_numbers [] had = refl
  same_numbers (key ∷ keys) had =
      let same : number_in old key ≡ number_in new key =
      ap (λ o. unwrap_or o 0) (sym (keeps key (number_in old key) (some_is (get (slice_cmp int_cmp) old key) (had 0 key (omega arith))))) in
      (λ i. same i ∷ same_numbers keys (λ k d inside. had (suc k) d (omega (arith, inside))) i)

  -- one key more has its number
  pub numbers_more : (keys : List (List ℤ)) (key : List ℤ) (groups : List ℕ) (number : ℕ) → IsNumbering old keys → get (slice_cmp int_cmp) new key ≡ Some number
      → groups ≡ map (number_in old) keys → groups ++ number ∷ [] ≡ map (number_in new) (keys ++ key ∷ [])
  numbers_more keys key groups number numbered given are =
      (λ i. (are ∙ same_numbers keys numbered.numbered) i ++ ap (λ o. unwrap_or o 0) (sym given) i ∷ []) ∙ sym (map_push (number_in new) keys key)
