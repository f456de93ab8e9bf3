-- The rows that effects go to, by each way of walking.
use Rattle.std.proofs.Common.{◌≡◌, ℕ, ℤ, pos, zero, suc, ◌+◌, ◌-◌, ◌<◌, Bool, true, false, ◌&&◌, cond, List, [], ◌∷◌, length, get_or, Some, refl, ap, sym, ◌∙◌, arith, ◌==◌, subst}
use Rattle.std.specs.Prelude.{filter, All}
use Rattle.std.specs.List.{range_with_len}
use Rattle.std.specs.List.Sorted.{IsPermutation}
use Rattle.std.proofs.lemmas.List.Sorted.{IsPermutation-refl}
use Rattle.std.proofs.lemmas.Bool.{eq-eqb, ne_eqb, false_from_ne_true}
use Rattle.sgl_values.specs.World.{Row, KeysRise}
use Rattle.sgl_typed.specs.declared.script.TTest.{TTest}
use Rattle.sgl_typed.specs.Value.{Context}
use Rattle.sgl_evaluate.specs.Rights.{passes_each, right_of}
use Rattle.env_table.proofs.Keys.{key_above}
use Rattle.row_groups.specs.Places.{places}
use Rattle.std.proofs.lemmas.List.FromFn.{length-range_with_len, get_or-range_with_len}
use Rattle.std.proofs.Common.{◌≢◌}
use Rattle.index_set.specs.Keyed.{key_asked}
use Rattle.index_set.proofs.Keying.{key_passes, same-key}
use Rattle.row_groups.proofs.Placing.{filter-places, places_agree, all_places, no_place}

-- a walk through all rows
pub scan_rest : (p : Row → Bool) (rows : List Row) (d : Row) → filter (λ n. p (get_or rows n d)) (range_with_len 0 (length rows)) ≡ places p rows 0
scan_rest p rows d = ap (filter (λ n. p (get_or rows n d))) (all_places rows 0) ∙ filter-places (λ row. true) p [] rows d

pub either : (q p : Bool) → (p ≡ true → q ≡ true) → (q && p) ≡ p
either true p h = refl
either false true h = h refl
either false false h = refl

-- a walk through the rows that pass a weaker test
pub group_rest : (q p : Row → Bool) (rows : List Row) (d : Row) → All (λ row. p row ≡ true → q row ≡ true) rows → filter (λ n. p (get_or rows n d)) (places q rows 0) ≡ places p rows 0
group_rest q p rows d weaker = filter-places q p [] rows d ∙ places_agree (λ row. q row && p row) p rows 0 (λ k e inside. either (q (get_or rows k e)) (p (get_or rows k e)) (weaker k e inside))

-- ---- the row with a key

-- one row alone has the key
one_place : (rows : List Row) (last : ℕ) → KeysRise last rows → (i key place : ℕ) (d : Row) → i < length rows → (get_or rows i d).key ≡ key → places (λ row. row.key == key) rows place ≡ (place + i) ∷ []
one_place [] last rise i key place d inside same = absurd (omega arith)
one_place (row ∷ rows) last rise zero key place d inside same =
    let others : All (λ r. (r.key == key) ≡ false) rows = λ k e within.
    let later : row.key < (get_or rows k e).key = key_above rows row.key rise.1 k e within in
    ne_eqb (get_or rows k e).key key (λ h. absurd (omega (arith, later, same, h))) in
    ap (λ b. cond b (place ∷ places (λ r. r.key == key) rows (place + 1)) (places (λ r. r.key == key) rows (place + 1))) (eq-eqb row.key key same)
    ∙ (λ i. (place+0 i) ∷ no_place (λ r. r.key == key) rows (place + 1) others i)
  where
    place+0 : place ≡ place + 0
    place+0 = omega arith
one_place (row ∷ rows) last rise (suc i) key place d inside same =
    let later : row.key < (get_or rows i d).key = key_above rows row.key rise.1 i d (omega arith) in
    ap (λ b. cond b (place ∷ places (λ r. r.key == key) rows (place + 1)) (places (λ r. r.key == key) rows (place + 1))) (ne_eqb row.key key (λ h. absurd (omega (arith, later, same, h))))
    ∙ one_place rows row.key rise.1 i key (place + 1) d (omega arith) same
    ∙ ap (λ (n : ℕ). n ∷ []) (omega arith)

pub key_rest : (p : Row → Bool) (rows : List Row) (i : ℕ) (d : Row) → KeysRise 0 rows → i < length rows → All (λ row. p row ≡ true → row.key ≡ (get_or rows i d).key) rows
    → filter (λ n. p (get_or rows n d)) (i ∷ []) ≡ places p rows 0
key_rest p rows i d rise inside only =
    ap (filter (λ n. p (get_or rows n d))) (sym (one_place rows 0 rise i (get_or rows i d).key 0 d inside refl ∙ ap (λ (n : ℕ). n ∷ []) (omega arith)))
    ∙ group_rest (λ row. row.key == (get_or rows i d).key) p rows d (λ k e within passes. eq-eqb (get_or rows k e).key (get_or rows i d).key (only k e within passes))

pub range_below : (n m : ℕ) → n ≡ m → All (λ row. row < m) (range_with_len 0 n)
range_below n m same = λ k d inside.
    let lt : k < n = omega (arith, inside, length-range_with_len 0 n) in
    omega (arith, get_or-range_with_len 0 n k d lt, same, lt)

pub one_row : (row : ℕ) → range_with_len row ((row + 1) - row) ≡ row ∷ []
one_row row = let one : (row + 1) - row ≡ 1 = omega arith in ap (range_with_len row) one ∙ single
  where
    single : range_with_len row 1 ≡ row ∷ []
    single = refl

-- no row passes
pub none_rest : (c : Context) (tests : List TTest) (z : ℤ) → key_asked (right_of c) tests ≡ Some z → All (λ row. pos row.key ≢ z) c.world.rows → [] ≡ places (passes_each c tests) c.world.rows 0
none_rest c tests z asked missing = sym (no_place (passes_each c tests) c.world.rows 0 (λ k d inside.
    false_from_ne_true (passes_each c tests (get_or c.world.rows k d)) (λ passes. missing k d inside (key_passes c tests (get_or c.world.rows k d) z asked passes))))

pub only_keyed : (c : Context) (tests : List TTest) (z : ℤ) (row : Row) → key_asked (right_of c) tests ≡ Some z → pos row.key ≡ z → All (λ r. passes_each c tests r ≡ true → r.key ≡ row.key) c.world.rows
only_keyed c tests z row asked key = λ k d inside passes. same-key (get_or c.world.rows k d).key row.key z (key_passes c tests (get_or c.world.rows k d) z asked passes) key

-- one list is a permutation of itself
pub same_rows : (xs ys : List ℕ) → ys ≡ xs → IsPermutation xs ys
same_rows xs ys is = subst (IsPermutation xs) (sym is) (IsPermutation-refl xs)
