-- Rows that are taken over, gone or free: each stands in one of the lists.
use Rattle.std.proofs.Common.{◌≡◌, ◌∙◌, ◌+◌, ◌<◌, ◌≤◌, ℕ, eqb, List, [], ◌∷◌, ◌++◌, Option, Some, None, length, get_or, drop, sym, ap, subst, ⊎_elim, arith}
use Rattle.std.specs.Prelude.{Contains, option_to_list, IfNone, IfSome}
use Rattle.std.specs.List.{range_with_len}
use Rattle.std.specs.List.Sorted.{IsPermutation}
use Rattle.std.proofs.lemmas.Bool.Decides.{Decides-eqb}
use Rattle.std.proofs.lemmas.List.{append_assoc, append-nil, drop_more, length-append, length-drop}
use Rattle.std.proofs.lemmas.List.Elements.{Contains-append_cases, Contains-append_left, Contains-append_right, Contains-push}
use Rattle.std.proofs.lemmas.List.FromFn.{get_or-range_with_len, length-range_with_len}
use Rattle.std.proofs.lemmas.List.Sorted.{Contains-permutation, IsPermutation-append_comm, IsPermutation-append_left, IsPermutation-append_right, IsPermutation-middle, IsPermutation-sym, IsPermutation-to_front, IsPermutation-trans, length_permutation}
use Rattle.std.proofs.lemmas.Map.Keys.{IsDistinct-IsPermutation}
use Rattle.std.proofs.lemmas.Map.Made.{AllPairs-from_IsDistinct, IsDistinct-from_AllPairs}
use Rattle.cell_links.proofs.Rows.{Apart, Apart-front, Contains-cons_cases}
use Rattle.cell_keep.specs.Rows.{rows_in}

pub rows_in-push : (rows : List (Option ℕ)) (row : Option ℕ) → rows_in (rows ++ row ∷ []) ≡ rows_in rows ++ option_to_list row
rows_in-push [] row = append-nil (option_to_list row)
rows_in-push (first ∷ rows) row = ap (λ (l : List ℕ). option_to_list first ++ l) (rows_in-push rows row) ∙ sym (append_assoc (option_to_list first) (rows_in rows) (option_to_list row))

pub none_more : (rows : List (Option ℕ)) → rows_in (rows ++ None ∷ []) ≡ rows_in rows
none_more rows = rows_in-push rows None ∙ append-nil (rows_in rows)

-- one row more is taken over
pub taken_one : (rows more : List (Option ℕ)) (gone left : List ℕ) (row : ℕ) → more ≡ rows ++ Some row ∷ [] → left ≡ gone
    → IsPermutation (row ∷ (rows_in rows ++ gone)) (rows_in more ++ left)
taken_one rows more gone left row pushed same =
    let is : rows_in more ++ left ≡ rows_in rows ++ row ∷ gone =
    ap (λ (l : List ℕ). rows_in more ++ l) same ∙ (ap (λ (l : List (Option ℕ)). rows_in l ++ gone) pushed
    ∙ (ap (λ (l : List ℕ). l ++ gone) (rows_in-push rows (Some row)) ∙ append_assoc (rows_in rows) (row ∷ []) gone)) in
    subst (IsPermutation (row ∷ (rows_in rows ++ gone))) (sym is) (IsPermutation-sym (rows_in rows ++ row ∷ gone) (row ∷ (rows_in rows ++ gone)) (IsPermutation-middle (rows_in rows) row gone))

-- one row more is gone
pub gone_one : (rows same : List (Option ℕ)) (gone more : List ℕ) (row : ℕ) → same ≡ rows → more ≡ gone ++ row ∷ []
    → IsPermutation (row ∷ (rows_in rows ++ gone)) (rows_in same ++ more)
gone_one rows same gone more row kept pushed =
    let is : rows_in same ++ more ≡ (rows_in rows ++ gone) ++ row ∷ [] =
    ap (λ (l : List ℕ). rows_in same ++ l) pushed ∙ (ap (λ (l : List (Option ℕ)). rows_in l ++ (gone ++ row ∷ [])) kept ∙ sym (append_assoc (rows_in rows) gone (row ∷ []))) in
    subst (IsPermutation (row ∷ (rows_in rows ++ gone))) (sym is)
    (IsPermutation-sym ((rows_in rows ++ gone) ++ row ∷ []) (row ∷ (rows_in rows ++ gone)) (IsPermutation-to_front (rows_in rows ++ gone) row))

-- ---- giving rows to points

-- no more rows are told than there are points
length-rows_in : (rows : List (Option ℕ)) → length (rows_in rows) ≤ length rows
length-rows_in [] = omega arith
length-rows_in (None ∷ rows) = omega (arith, length-rows_in rows)
length-rows_in (Some row ∷ rows) = omega (arith, length-rows_in rows)

-- where a point takes no row over, there is a free one for it
pub free_left : (taken : List (Option ℕ)) (i : ℕ) (whole order free : List ℕ) → i < length taken → length taken ≤ 65536 → length whole ≡ 65536
    → IsPermutation whole ((order ++ rows_in (drop i taken)) ++ free) → length order ≡ i → IfNone (get_or taken i None) (0 < length free)
free_left taken i whole order free inside few full shared each =
    step (get_or taken i None) (drop_more taken i None inside)
  where
    step : (o : Option ℕ) → drop i taken ≡ o ∷ drop (i + 1) taken → IfNone o (0 < length free)
    step (Some row) is = tt
    step None is =
        omega (
          arith,
          inside,
          few,
          full,
          each,
          length_permutation whole ((order ++ rows_in (drop i taken)) ++ free) shared,
          length-append (order ++ rows_in (drop i taken)) free,
          length-append order (rows_in (drop i taken)),
          ap (λ (l : List (Option ℕ)). length (rows_in l)) is,
          length-rows_in (drop (i + 1) taken),
          length-drop (i + 1) taken,
        )

-- one point more has its row
pub filled_one : (all order rest free left : List ℕ) (taken : Option ℕ) (row : ℕ) → IsPermutation all ((order ++ (option_to_list taken ++ rest)) ++ free)
    → IsPermutation (option_to_list taken ++ free) (row ∷ left) → IsPermutation all (((order ++ row ∷ []) ++ rest) ++ left)
filled_one all order rest free left taken row before given =
    let o = option_to_list taken in
    let swapped : IsPermutation ((o ++ rest) ++ free) (rest ++ (o ++ free)) =
    subst (IsPermutation ((o ++ rest) ++ free)) (append_assoc rest o free) (IsPermutation-append_left free (o ++ rest) (rest ++ o) (IsPermutation-append_comm o rest)) in
    let told : IsPermutation (rest ++ (o ++ free)) (row ∷ (rest ++ left)) =
    IsPermutation-trans (rest ++ (o ++ free)) (rest ++ row ∷ left) (row ∷ (rest ++ left)) (IsPermutation-append_right rest (o ++ free) (row ∷ left) given) (IsPermutation-middle rest row left) in
    let moved : IsPermutation (order ++ ((o ++ rest) ++ free)) (order ++ (row ∷ (rest ++ left))) =
    IsPermutation-append_right order ((o ++ rest) ++ free) (row ∷ (rest ++ left)) (IsPermutation-trans ((o ++ rest) ++ free) (rest ++ (o ++ free)) (row ∷ (rest ++ left)) swapped told) in
    let end : order ++ (row ∷ (rest ++ left)) ≡ ((order ++ row ∷ []) ++ rest) ++ left =
    sym (append_assoc (order ++ row ∷ []) rest left ∙ append_assoc order (row ∷ []) (rest ++ left)) in
    subst (IsPermutation all) end
    (IsPermutation-trans all (order ++ ((o ++ rest) ++ free)) (order ++ (row ∷ (rest ++ left))) (subst (IsPermutation all) (append_assoc order (o ++ rest) free) before) moved)

-- a row that was taken over or told is still there
pub filled_holds : (order rest : List ℕ) (taken : Option ℕ) (row x : ℕ) → IfSome taken (λ r. r ≡ row) → Contains (order ++ (option_to_list taken ++ rest)) x
    → Contains ((order ++ row ∷ []) ++ rest) x
filled_holds order rest taken row x is there = ⊎_elim
    (λ (front : Contains order x). Contains-append_left (order ++ row ∷ []) rest x (Contains-append_left order (row ∷ []) x front))
    (λ (back : Contains (option_to_list taken ++ rest) x). later taken is back) (Contains-append_cases order (option_to_list taken ++ rest) x there)
  where
    later : (o : Option ℕ) → IfSome o (λ r. r ≡ row) → Contains (option_to_list o ++ rest) x → Contains ((order ++ row ∷ []) ++ rest) x
    later None h back = Contains-append_right (order ++ row ∷ []) rest x back
    later (Some r) h back = ⊎_elim
        (λ (same : r ≡ x). Contains-append_left (order ++ row ∷ []) rest x (subst (Contains (order ++ row ∷ [])) (sym h ∙ same) (Contains-push order row)))
        (λ (rear : Contains rest x). Contains-append_right (order ++ row ∷ []) rest x rear) (Contains-cons_cases r rest x back)

-- ---- an advance

-- rows in another order are apart too
pub apart_still : (xs ys : List ℕ) → IsPermutation xs ys → Apart xs → Apart ys
apart_still xs ys moved apart =
    AllPairs-from_IsDistinct Decides-eqb ys (IsDistinct-IsPermutation eqb flips xs ys moved (IsDistinct-from_AllPairs Decides-eqb xs apart))
  where
    flips : (x y : ℕ) → eqb x y ≡ eqb y x
    flips x y = grind arith

below_range : (n x : ℕ) → Contains (range_with_len 0 n) x → x < n
below_range n x there =
    let inside : there.0 < n = omega (arith, there.1, length-range_with_len 0 n) in
    let is = get_or-range_with_len 0 n there.0 x inside in
    omega (arith, inside, is, there.2)

apart_range : (n : ℕ) → Apart (range_with_len 0 n)
apart_range n i j d order inside same =
    let below : j < n = omega (arith, inside, length-range_with_len 0 n) in
    omega (arith, order, get_or-range_with_len 0 n i d (omega (arith, order, below)), get_or-range_with_len 0 n j d below, same)

-- each row is in the order or free
module _ (order free : List ℕ) (shared : IsPermutation (order ++ free) (range_with_len 0 65536)) where
  pub order_apart : Apart order
  order_apart = Apart-front order free
      (apart_still (range_with_len 0 65536) (order ++ free) (IsPermutation-sym (order ++ free) (range_with_len 0 65536) shared) (apart_range 65536))

  pub order_below : (row : ℕ) → Contains order row → row < 65536
  order_below row there = below_range 65536 row (Contains-permutation (order ++ free) (range_with_len 0 65536) row shared (Contains-append_left order free row there))

  pub shared_length : length order + length free ≡ 65536
  shared_length = omega (arith, length_permutation (order ++ free) (range_with_len 0 65536) shared, length-append order free, length-range_with_len 0 65536)

  -- the rows of the order are taken over or gone
  module _ (taken gone : List ℕ) (parted : IsPermutation order (taken ++ gone)) where
    pub parted_length : length taken + length gone ≡ length order
    parted_length = omega (arith, length_permutation order (taken ++ gone) parted, length-append taken gone)

    pub gone_below : (row : ℕ) → Contains gone row → row < 65536
    gone_below row there =
        order_below row (Contains-permutation (taken ++ gone) order row (IsPermutation-sym order (taken ++ gone) parted) (Contains-append_right taken gone row there))

    -- a row that is not gone is taken over
    pub taken_over : (row : ℕ) → Contains order row → ¬ Contains gone row → Contains taken row
    taken_over row there apart = ⊎_elim (λ (front : Contains taken row). front) (λ (back : Contains gone row). absurd (apart back))
        (Contains-append_cases taken gone row (Contains-permutation order (taken ++ gone) row parted there))

    -- each row is in the new order or free
    pub shared_still : (next left : List ℕ) → IsPermutation (taken ++ (free ++ gone)) (next ++ left) → IsPermutation (next ++ left) (range_with_len 0 65536)
    shared_still next left filled =
        let back : IsPermutation (taken ++ (free ++ gone)) (order ++ free) =
        IsPermutation-trans (taken ++ (free ++ gone)) ((taken ++ gone) ++ free) (order ++ free)
        (subst (IsPermutation (taken ++ (free ++ gone))) (sym (append_assoc taken gone free))
        (IsPermutation-append_right taken (free ++ gone) (gone ++ free) (IsPermutation-append_comm free gone)))
        (IsPermutation-append_left free (taken ++ gone) order (IsPermutation-sym order (taken ++ gone) parted)) in
        IsPermutation-trans (next ++ left) (taken ++ (free ++ gone)) (range_with_len 0 65536) (IsPermutation-sym (taken ++ (free ++ gone)) (next ++ left) filled)
        (IsPermutation-trans (taken ++ (free ++ gone)) (order ++ free) (range_with_len 0 65536) back shared)
