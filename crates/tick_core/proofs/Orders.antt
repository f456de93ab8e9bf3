-- A total does not depend on the order: lists in which each number stands equally often have equal totals.
use Rattle.std.proofs.Common.{◌≡◌, ◌≢◌, ℕ, zero, suc, ◌+◌, ◌<◌, ◌==◌, nat_lt, cond, Bool, false, List, [], ◌∷◌, sym, refl, ap, ◌∙◌, ⊎_elim, eq-eqb, arith}
use Rattle.std.specs.List.{range_with_len, flat_map}
use Rattle.std.proofs.lemmas.Bool.{cases_eq, ne_eqb}
use Rattle.std.proofs.lemmas.Bool.Decides.{nat_tests}
use Rattle.sgl_values.specs.Totals.{IsAssociative, IsCommutative, total}
use Rattle.sgl_values.specs.declared.fault.Tag.{Tag}
use Rattle.effect_combine.specs.Words.{start_of, merged}
use Rattle.effect_combine.proofs.Merging.{merged_assoc, merged_comm}
use Rattle.tick_core.specs.Fair.{gathered}
use Rattle.tick_core.specs.Laws.{EachTaskOnce}
use Rattle.tick_core.specs.declared.event.Give.{Give}
use Rattle.tick_core.proofs.Gathering.{times, times-cons, gathered-append, plus_assoc, plus_comm}
use Rattle.tick_core.proofs.Totals.{swapped, total-flat_map}

-- the list without the first x
abbrev without : ℕ → List ℕ → List ℕ
without x [] = []
without x (y ∷ ys) = cond (y == x) ys (y ∷ without x ys)

module _ {B : Type 0} (op : B → B → B) (end : B) (worth : ℕ → B) (assoc : IsAssociative op) (comm : IsCommutative op) where
  total-without : (x : ℕ) (ys : List ℕ) → 0 < times x ys → total op end worth ys ≡ op (worth x) (total op end worth (without x ys))
  total-without x [] some = absurd (omega (arith, some))
  total-without x (y ∷ ys) some =
      ⊎_elim
      (λ (same : y ≡ x).
      ap (λ (z : ℕ). op (worth z) (total op end worth ys)) same
      ∙ ap (λ (b : Bool). op (worth x) (total op end worth (cond b ys (y ∷ without x ys)))) (sym (eq-eqb y x same)))
      (λ (apart : y ≢ x).
      let told : (y == x) ≡ false = ne_eqb y x apart in
      let all = times-cons x y ys in
      let none : ◌≡◌ {A = ℕ} (cond (y == x) 1 0) 0 = ap (λ (b : Bool). cond b 1 0) told in
      ap (op (worth y)) (total-without x ys (omega (arith, some, all, none)))
      ∙ swapped op end worth assoc comm (worth y) (worth x) (total op end worth (without x ys))
      ∙ ap (λ (b : Bool). op (worth x) (total op end worth (cond b ys (y ∷ without x ys)))) (sym told)) (cases_eq y x)

times_total : (z : ℕ) (ys : List ℕ) → times z ys ≡ total (λ a b. a + b) 0 (λ y. cond (y == z) 1 0) ys
times_total z [] = refl
times_total z (y ∷ ys) = times-cons z y ys ∙ ap (λ (n : ℕ). cond (y == z) 1 0 + n) (times_total z ys)

times_without : (z x : ℕ) (ys : List ℕ) → 0 < times x ys → times z ys ≡ cond (x == z) 1 0 + times z (without x ys)
times_without z x ys some =
    times_total z ys ∙ total-without (λ a b. a + b) 0 (λ y. cond (y == z) 1 0) plus_assoc plus_comm x ys some
    ∙ ap (λ (n : ℕ). cond (x == z) 1 0 + n) (sym (times_total z (without x ys)))

times_first : (x : ℕ) (xs : List ℕ) → 0 < times x (x ∷ xs)
times_first x xs =
    let all = times-cons x x xs in
    let here : ◌≡◌ {A = ℕ} (cond (x == x) 1 0) 1 = ap (λ (b : Bool). cond b 1 0) (eq-eqb x x refl) in
    omega (arith, all, here)

-- how often a number stands among those from a on
times_range : (x a n : ℕ) → times x (range_with_len a n) ≡ cond (nat_lt x a) 0 (cond (nat_lt x (a + n)) 1 0)
times_range x a zero = grind (arith, nat_tests)
times_range x a (suc n) = let rest = times_range x (a + 1) n in let first = times-cons x a (range_with_len (a + 1) n) in grind (arith, nat_tests, rest, first)

pub times_below : (x n : ℕ) → times x (range_with_len 0 n) ≡ cond (nat_lt x n) 1 0
times_below x n = let all = times_range x 0 n in grind (arith, nat_tests, all)

module _ {B : Type 0} (op : B → B → B) (end : B) (worth : ℕ → B) (assoc : IsAssociative op) (comm : IsCommutative op) where
  pub total-counts : (xs ys : List ℕ) → ((x : ℕ) → times x xs ≡ times x ys) → total op end worth xs ≡ total op end worth ys
  total-counts [] [] same = refl
  total-counts [] (y ∷ ys) same = let is = same y in let some = times_first y ys in absurd (omega (arith, is, some))
  total-counts (x ∷ xs) ys same =
      let first = times_first x xs in
      let is = same x in
      let there : 0 < times x ys = omega (arith, first, is) in
      ap (op (worth x)) (total-counts xs (without x ys) (λ z. let a = same z in let b = times_without z x ys there in let c = times-cons z x xs in omega (arith, a, b, c)))
      ∙ sym (total-without op end worth assoc comm x ys there)

  -- what numbers come to that are those below another, each once
  pub total-once : (xs : List ℕ) (n : ℕ) → ((x : ℕ) → times x xs ≡ cond (nat_lt x n) 1 0) → total op end worth xs ≡ total op end worth (range_with_len 0 n)
  total-once xs n once = total-counts xs (range_with_len 0 n) (λ x. once x ∙ sym (times_below x n))

gathered-flat_map : (tag : Tag) (word : ℕ) (gives_of : ℕ → List Give) (tasks : List ℕ)
    → gathered tag word (flat_map gives_of tasks) ≡ total (merged tag) (start_of tag) (λ task. gathered tag word (gives_of task)) tasks
gathered-flat_map tag word gives_of tasks = total-flat_map (merged tag) (start_of tag) (gathered tag word) gives_of refl (gathered-append tag word) tasks

pub gathered-once : EachTaskOnce
gathered-once tag word gives_of claimed count once =
    gathered-flat_map tag word gives_of claimed
    ∙ total-once (merged tag) (start_of tag) (λ task. gathered tag word (gives_of task)) (merged_assoc tag) (merged_comm tag) claimed count once
    ∙ sym (gathered-flat_map tag word gives_of (range_with_len 0 count))
