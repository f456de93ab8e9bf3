-- The rows of a strip, from the first that is held on.
use Rattle.std.proofs.Common.{◌≡◌, ℕ, zero, suc, ◌+◌, ◌-◌, ◌<◌, ◌≤◌, Bool, true, false, cond, nat_lt, List, [], ◌∷◌, get_or, length}
use Rattle.std.proofs.Common.{take, drop, Some, None, inl, inr, refl, ap, sym, ◌∙◌, arith}
use Rattle.std.specs.Prelude.{filter, position}
use Rattle.std.specs.List.{position_or_len}
use Rattle.std.proofs.lemmas.Bool.{cases_lt, le-ltb, lt-ltb, ltb-false}
use Rattle.std.proofs.lemmas.List.{get_or-drop, get_or-take, length-drop, length-take-le}
use Rattle.std.proofs.lemmas.List.Sums.{fails_before_first, position_or_len_is}
use Rattle.std.proofs.lemmas.Option.{none-some}
use Rattle.row_groups.specs.Strips.{is_held, rows_held}

-- no rank is from a low one to before an end that is not above it
none-held : (low end rank : ℕ) → end ≤ low → is_held low end rank ≡ false
none-held low end rank over = grind (arith, over)

pub nothing_held : (low end : ℕ) (rows ranks : List ℕ) → end ≤ low → rows_held low end rows ranks ≡ []
nothing_held low end [] ranks over = refl
nothing_held low end (row ∷ rows) [] over = refl
nothing_held low end (row ∷ rows) (rank ∷ ranks) over =
    ap (λ b. cond b (row ∷ rows_held low end rows ranks) (rows_held low end rows ranks)) (none-held low end rank over)
    ∙ nothing_held low end rows ranks over

-- a rank that is not asked for
held_not : (low end row rank : ℕ) (rows ranks : List ℕ) → is_held low end rank ≡ false
    → rows_held low end (row ∷ rows) (rank ∷ ranks) ≡ rows_held low end rows ranks
held_not low end row rank rows ranks other = ap (λ b. cond b (row ∷ rows_held low end rows ranks) (rows_held low end rows ranks)) other

-- one that is
held_here : (low end row rank : ℕ) (rows ranks : List ℕ) → is_held low end rank ≡ true
    → rows_held low end (row ∷ rows) (rank ∷ ranks) ≡ row ∷ rows_held low end rows ranks
held_here low end row rank rows ranks here = ap (λ b. cond b (row ∷ rows_held low end rows ranks) (rows_held low end rows ranks)) here

-- at none of so many places a test passes
abbrev pub NonePass : (ℕ → Bool) → List ℕ → ℕ → Type 0
NonePass test xs count = (k : ℕ) → k < count → test (get_or xs k 0) ≡ false

-- where the first that is asked for stands at a place
pub held_from : (low end : ℕ) (rows ranks : List ℕ) (place : ℕ) → length ranks ≡ length rows → place < length ranks
    → NonePass (is_held low end) ranks place → is_held low end (get_or ranks place 0) ≡ true
    → rows_held low end rows ranks ≡ get_or rows place 0 ∷ rows_held low end (drop (place + 1) rows) (drop (place + 1) ranks)
held_from low end rows [] place each inside past here = absurd (omega (arith, inside))
held_from low end [] (rank ∷ ranks) place each inside past here = absurd (omega (arith, each))
held_from low end (row ∷ rows) (rank ∷ ranks) zero each inside past here = held_here low end row rank rows ranks here
held_from low end (row ∷ rows) (rank ∷ ranks) (suc place) each inside past here =
    let next : suc place + 1 ≡ suc (place + 1) = omega arith in
    let later : NonePass (is_held low end) ranks place = λ k before. past (suc k) (omega (arith, before)) in
    held_not low end row rank rows ranks (past 0 (omega arith))
    ∙ held_from low end rows ranks place (omega (arith, each)) (omega (arith, inside)) later here
    ∙ ap (λ (n : ℕ). get_or rows place 0 ∷ rows_held low end (drop n (row ∷ rows)) (drop n (rank ∷ ranks))) (sym next)

-- where none is
pub held_nowhere : (low end : ℕ) (rows ranks : List ℕ) → NonePass (is_held low end) ranks (length ranks)
    → rows_held low end rows ranks ≡ []
held_nowhere low end [] ranks none = refl
held_nowhere low end (row ∷ rows) [] none = refl
held_nowhere low end (row ∷ rows) (rank ∷ ranks) none =
    held_not low end row rank rows ranks (none 0 (omega arith))
    ∙ held_nowhere low end rows ranks (λ k inside. none (suc k) (omega (arith, inside)))

-- ---- places at which a test passes

-- of a list of which a filter keeps nothing
none_kept : (test : ℕ → Bool) (xs : List ℕ) → length (filter test xs) ≡ 0 → NonePass test xs (length xs)
none_kept test [] none k inside = absurd (omega (arith, inside))
none_kept test (x ∷ xs) none k inside = by (test x) refl none (none_kept test xs) k inside
  where
    by : (b : Bool) → test x ≡ b → length (cond b (x ∷ filter test xs) (filter test xs)) ≡ 0
        → (length (filter test xs) ≡ 0 → NonePass test xs (length xs)) → NonePass test (x ∷ xs) (suc (length xs))
    by true here many later n within = absurd (omega (arith, many))
    by false here few later zero within = here
    by false here few later (suc n) within = later few n (omega (arith, within))

-- a block more of which a filter keeps nothing
pub past_more : (test : ℕ → Bool) (xs : List ℕ) (place count : ℕ) → place + count ≤ length xs → NonePass test xs place
    → length (filter test (take count (drop place xs))) ≡ 0 → NonePass test xs (place + count)
past_more test xs place count inside past none k before = elim (cases_lt k place) [
  | inl lt ↦ past k lt
  | inr le ↦
      let block : List ℕ = take count (drop place xs) in
      let long : length block ≡ count = length-take-le count (drop place xs) (omega (arith, inside, length-drop place xs)) in
      let there : get_or block (k - place) 0 ≡ get_or xs k 0 =
      get_or-take count (drop place xs) (k - place) 0 (omega (arith, le, before))
      ∙ get_or-drop place xs (k - place) 0
      ∙ ap (λ n. get_or xs n 0) (omega (arith, le)) in
      sym (ap test there) ∙ none_kept test block none (k - place) (omega (arith, le, before, long))
]

-- the first of them
pub first_here : (test : ℕ → Bool) (xs : List ℕ) (place : ℕ) → place < length xs → NonePass test xs place
    → test (get_or xs place 0) ≡ true → position test xs ≡ Some place
first_here test xs place inside past here =
    let first : position_or_len test xs ≡ place = position_or_len_is test xs place 0 (omega (arith, inside)) past (λ h. here) in
    ap (λ (n : ℕ). cond (nat_lt n (length xs)) (Some n) None) first
    ∙ ap (λ b. cond b (Some place) None) (lt-ltb place (length xs) inside)

-- where there is none
pub first_nowhere : (test : ℕ → Bool) (xs : List ℕ) → NonePass test xs (length xs) → position test xs ≡ None
first_nowhere test xs none =
    let size : ℕ = length xs in
    let past : position_or_len test xs ≡ size =
    position_or_len_is test xs size 0 (omega arith) none (λ h. absurd (omega (arith, h))) in
    ap (λ (n : ℕ). cond (nat_lt n size) (Some n) None) past ∙ ap (λ b. cond b (Some size) None) (le-ltb size size (omega arith))

pub none_first : (test : ℕ → Bool) (xs : List ℕ) → position test xs ≡ None → NonePass test xs (length xs)
none_first test xs nowhere k inside = by (nat_lt (position_or_len test xs) (length xs)) refl nowhere
  where
    by : (b : Bool) → nat_lt (position_or_len test xs) (length xs) ≡ b → cond b (Some (position_or_len test xs)) None ≡ None
        → test (get_or xs k 0) ≡ false
    by true less some = absurd (none-some _ (sym some))
    by false over nothing =
        fails_before_first test xs k 0 (omega (arith, inside, ltb-false (position_or_len test xs) (length xs) over))
