-- Steps of a walk through rows.
use Rattle.std.proofs.Common.{◌≡◌, ℕ, suc, ◌+◌, ◌-◌, ◌<◌, ◌≤◌, ◌++◌, Bool, true, false, cond, List, [], ◌∷◌, length, get_or, Option, None, Some, inl, inr, subst, ap, sym, ◌∙◌, arith, refl}
use Rattle.std.proofs.lemmas.Bool.{cases_lt, false≢true}
use Rattle.std.proofs.lemmas.List.{length_push, get_or_append_left, get_or_push}
use Rattle.std.proofs.lemmas.List.Elements.{All-cons, All-head, All-nil, All-rest, All-same}
use Rattle.std.proofs.lemmas.Option.{none-some}
use Rattle.std.specs.Iterator.{YieldsFirst}
use Rattle.std.specs.List.{range_with_len}
use Rattle.std.specs.Option.{is_some}
use Rattle.std.specs.Prelude.{filter, All}
use Rattle.sgl_typed.specs.declared.script.TTest.{TTest}
use Rattle.sgl_typed.specs.Value.{Context}
use Rattle.index_set.specs.declared.others.Others.{Others}
use Rattle.index_set.specs.declared.walk.Walk.{Walk}
use Rattle.index_set.specs.Aims.{rows_of}
use Rattle.index_set.specs.Others.{others_rest, rows_asked, rows_but, rows_unless}
use Rattle.index_set.specs.Walks.{is_exact, row_meets, row_passes, sole_of, walk_rest, AreEnough, AsksEnough}

pub range_more : (next end : ℕ) → next < end → range_with_len next (end - next) ≡ next ∷ range_with_len (next + 1) (end - (next + 1))
range_more next end h =
    let longer : end - next ≡ suc (end - (next + 1)) = omega (arith, h) in
    ap (range_with_len next) longer ∙ first (end - (next + 1))
  where
    first : (n : ℕ) → range_with_len next (suc n) ≡ next ∷ range_with_len (next + 1) n
    first n = refl

-- a row that fails is left out
pub left_out : {A : Type 0} (p : A → Bool) (x : A) (xs ys : List A) → ys ≡ x ∷ xs → false ≡ p x → filter p ys ≡ filter p xs
left_out p x xs ys is fails = ap (filter p) is ∙ ap (λ b. cond b (x ∷ filter p xs) (filter p xs)) (sym fails)

-- a list of which each element is right, one element longer
pub indexed_more : {A : Type 0} (P : ℕ → A → Type 0) (xs : List A) (i : ℕ) (d x : A) → (length xs ≡ i) × ((k : ℕ) → k < i → P k (get_or xs k d)) → P i x
    → (length (xs ++ x ∷ []) ≡ i + 1) × ((k : ℕ) → k < i + 1 → P k (get_or (xs ++ x ∷ []) k d))
indexed_more {A} P xs i d x before here = (
  length_push xs x ∙ ap (λ n. n + 1) before.0,
  λ k below. elim (cases_lt k i) [
    | inl lt ↦ let Q : A → Type 0 = λ y. P k y in subst Q (sym (get_or_append_left xs (x ∷ []) d k (omega (arith, lt, before.0)))) (before.1 k lt)
    | inr le ↦ let last : k ≡ i = omega (arith, below, le) in
        let R : ℕ → Type 0 = λ n. P n (get_or (xs ++ x ∷ []) n d) in
        let Q : A → Type 0 = λ y. P i y in
        subst R (sym last) (subst Q (sym (get_or_push xs x d i before.0)) here)
  ],
)

-- what holds of each row still holds of the others
pub all_after : (P : ℕ → Type 0) (old new : List ℕ) (first : Option ℕ) → YieldsFirst (λ (rest : List ℕ). rest) old first new → All P old
    → All P new
all_after P old new None yields all = All-same P new [] yields.1 (All-nil P)
all_after P old new (Some row) yields all = All-rest P row new old yields all

-- so what they are asked is still enough
pub asks_stay : (c : Context) (tests : List TTest) (old new : Walk) (first : Option ℕ) → is_exact new ≡ is_exact old → sole_of new ≡ sole_of old
    → YieldsFirst walk_rest old first new → AsksEnough c tests old → AsksEnough c tests new
asks_stay c tests old new first exact sole yields asks = (
  λ is. all_after (λ row. row_passes c tests row ≡ true) (walk_rest old) (walk_rest new) first yields (asks.0 (sym exact ∙ is)),
  λ number is.
      let before = asks.1 number (sym sole ∙ is) in
      (before.0, λ none. all_after (λ row. row_passes c tests row ≡ row_meets c (get_or tests number none) row) (walk_rest old) (walk_rest new) first yields (before.1 none)),
)

-- both of a walk that was found to be of one kind
pub step_within : (c : Context) (walk old new : Walk) (first : Option ℕ) → walk ≡ old → YieldsFirst walk_rest old first new
    → All (λ row. row < length c.world.rows) (walk_rest walk) → All (λ row. row < length c.world.rows) (walk_rest new)
step_within c walk old new first is yields all =
    all_after (λ row. row < length c.world.rows) (walk_rest old) (walk_rest new) first yields
    (subst (λ (w : Walk). All (λ row. row < length c.world.rows) (walk_rest w)) is all)

pub step_asks : (c : Context) (tests : List TTest) (walk old new : Walk) (first : Option ℕ) → walk ≡ old → is_exact new ≡ is_exact old → sole_of new ≡ sole_of old
    → YieldsFirst walk_rest old first new → AsksEnough c tests walk → AsksEnough c tests new
step_asks c tests walk old new first is exact sole yields asks =
    asks_stay c tests old new first exact sole yields (subst (λ (w : Walk). AsksEnough c tests w) is asks)

-- and for the next row alone
pub asks_next : (c : Context) (tests : List TTest) (walk new : Walk) (row number : ℕ) → walk_rest walk ≡ row ∷ walk_rest new → AsksEnough c tests walk
    → sole_of walk ≡ Some number → AreEnough c tests number (row ∷ [])
asks_next c tests walk new row number yields asks is =
    let before = asks.1 number is in (
      before.0,
      λ none.
          let P : ℕ → Type 0 = λ r. row_passes c tests r ≡ row_meets c (get_or tests number none) r in
          All-cons P row [] (All-head P row (walk_rest new) (All-same P (row ∷ walk_rest new) (walk_rest walk) (sym yields) (before.1 none))) (All-nil P),
    )

-- ---- one strip after another

-- the next row of a strip, and those that are left of it
pub strip_taken : (old : List ℕ) (row : Option ℕ) (new others : List ℕ) → YieldsFirst (λ (rest : List ℕ). rest) old row new
    → rows_of row ++ (new ++ others) ≡ old ++ others
strip_taken old None new others yields = ap (λ l. l ++ others) (yields.1 ∙ sym yields.0)
strip_taken old (Some row) new others yields = ap (λ l. l ++ others) (sym yields)

-- where there is none, none is left
pub strip_spent : (old : List ℕ) (row : Option ℕ) (new : List ℕ) → YieldsFirst (λ (rest : List ℕ). rest) old row new → row ≡ None → new ≡ []
strip_spent old None new yields none = yields.1
strip_spent old (Some row) new yields none = absurd (none-some row (sym none))

-- the groups behind a strip, the next one first
pub others_next : (it : Others) → it.strip ≡ [] → it.next < it.end
    → others_rest it ≡ rows_unless it.own (rows_asked it.sorted.now it.asked) it.next
    ++ rows_but it.own (rows_asked it.sorted.now it.asked) (it.next + 1) (it.end - (it.next + 1))
others_next it spent more =
    let rows : ℕ → List ℕ = rows_asked it.sorted.now it.asked in
    let longer : it.end - it.next ≡ suc (it.end - (it.next + 1)) = omega (arith, more) in
    ap (λ l. l ++ rows_but it.own rows it.next (it.end - it.next)) spent ∙ ap (rows_but it.own rows it.next) longer

-- behind the last strip there is nothing
pub others_end : (it : Others) → it.strip ≡ [] → it.end ≤ it.next → others_rest it ≡ []
others_end it spent past =
    let rows : ℕ → List ℕ = rows_asked it.sorted.now it.asked in
    let none : it.end - it.next ≡ 0 = omega (arith, past) in
    ap (λ l. l ++ rows_but it.own rows it.next (it.end - it.next)) spent ∙ ap (rows_but it.own rows it.next) none

-- a next row is there, or nothing is left
pub first_told : (old new : List ℕ) (row : Option ℕ) → rows_of row ++ new ≡ old → (row ≡ None → new ≡ []) → YieldsFirst (λ (rest : List ℕ). rest) old row new
first_told old new None is spent = (sym is ∙ spent refl, spent refl)
first_told old new (Some row) is spent = sym is

pub no_row : (row : Option ℕ) → is_some row ≡ false → row ≡ None
no_row None none = refl
no_row (Some row) none = absurd (false≢true (sym none))

pub some_row : (row : Option ℕ) → is_some row ≡ true → row ≡ None → ⊥
some_row None some none = false≢true some
some_row (Some row) some none = none-some row (sym none)
