-- Rows by a key that tests ask for.
use Rattle.std.proofs.Common.{◌≡◌, ◌≢◌, ℕ, ℤ, pos, ◌+◌, ◌<◌, Bool, true, false, ◌&&◌, cond, List, [], ◌∷◌, length, get_or, Option, Some, None, refl, ap, sym, ◌∙◌, arith, ◌==◌}
use Rattle.std.specs.Prelude.{filter, All, ◌⊎◌}
use Rattle.std.proofs.Common.{inl, inr, subst}
use Rattle.std.specs.Int.{FitsUnsignedBits}
use Rattle.std.proofs.lemmas.Bool.{and_parts, false≢true, false_from_ne_true, eq-eqb, cases_Bool}
use Rattle.std.proofs.lemmas.Bool.Decides.{Decides-eqb, Decides-int_eq}
use Rattle.sgl_values.specs.World.{IsRow, Row, KeysRise}
use Rattle.sgl_values.specs.declared.operator.CmpOp.TheVariants.{Eq, Ne, Lt, Le, Gt, Ge}
use Rattle.sgl_typed.specs.declared.script.Attr.TheVariants.{Key, Const}
use Rattle.sgl_typed.specs.declared.script.TTest.{TTest}
use Rattle.sgl_typed.specs.declared.script.TTest.TheVariants.{Compare, Within}
use Rattle.sgl_typed.specs.Aggregate.{meets}
use Rattle.sgl_typed.specs.Value.{Context}
use Rattle.sgl_evaluate.specs.Rights.{passes_each, right_of}
use Rattle.env_table.proofs.Keys.{filter-one_row}
use Rattle.rank_table.proofs.Ranking.{filter_none}
use Rattle.range_aggregate.proofs.Slices.{filter_both}
use Rattle.row_groups.proofs.Filters.{filter_agree_on}
use Rattle.index_set.specs.Keyed.{is_key_test, key_asked}

-- a test that the key equals a number
key_test : (test : TTest) (unit row : Row) (z : ℤ) → is_key_test test ≡ true → meets unit row test z ≡ true → pos row.key ≡ z
key_test (Compare Key Eq right) unit row z is h = (Decides-int_eq (pos row.key) z).0 h
key_test (Compare (Const i) Eq right) unit row z is h =
    let no : i + 1 ≡ 0 = (Decides-eqb (i + 1) 0).0 is in
    absurd (omega (arith, no))
key_test (Compare attr Ne right) unit row z is h = absurd (false≢true is)
key_test (Compare attr Lt right) unit row z is h = absurd (false≢true is)
key_test (Compare attr Le right) unit row z is h = absurd (false≢true is)
key_test (Compare attr Gt right) unit row z is h = absurd (false≢true is)
key_test (Compare attr Ge right) unit row z is h = absurd (false≢true is)
key_test (Within x y radius) unit row z is h = absurd (false≢true is)

same-some : (a b : ℤ) → Some a ≡ Some b → a ≡ b
same-some a b h = cc

key-step : (b : Bool) (here z : ℤ) (later : Option ℤ) (k : ℤ) → (b ≡ true → k ≡ here) → (later ≡ Some z → k ≡ z) → cond b (Some here) later ≡ Some z → k ≡ z
key-step true here z later k first rest h = first refl ∙ same-some here z h
key-step false here z later k first rest h = rest h

-- a row that passes has the key
pub key_passes : (c : Context) (tests : List TTest) (row : Row) (z : ℤ) → key_asked (right_of c) tests ≡ Some z → passes_each c tests row ≡ true → pos row.key ≡ z
key_passes c [] row z asked passes = absurd (none asked)
  where
    none : None ≡ Some z → ⊥
    none h = cc
key_passes c (test ∷ tests) row z asked passes =
    let parts = and_parts (meets c.unit row test (right_of c test)) (passes_each c tests row) passes in
    key-step (is_key_test test) (right_of c test) z (key_asked (right_of c) tests) (pos row.key)
    (λ is. key_test test c.unit row (right_of c test) is parts.0) (λ later. key_passes c tests row z later parts.1) asked

-- no row has the key
pub none_keyed : (c : Context) (tests : List TTest) (rows : List Row) (z : ℤ) → key_asked (right_of c) tests ≡ Some z → All (λ row. pos row.key ≢ z) rows → [] ≡ filter (passes_each c tests) rows
none_keyed c tests rows z asked missing =
    sym (filter_none (passes_each c tests) rows (λ k d inside. false_from_ne_true (passes_each c tests (get_or rows k d)) (λ passes.
    missing k d inside (key_passes c tests (get_or rows k d) z asked passes))))

pub same-key : (n m : ℕ) (z : ℤ) → pos n ≡ z → pos m ≡ z → n ≡ m
same-key n m z h g = let e : pos n ≡ pos m = h ∙ sym g in cc

-- one has
pub one_keyed : (c : Context) (tests : List TTest) (rows : List Row) (z : ℤ) (i : ℕ) (d : Row) → key_asked (right_of c) tests ≡ Some z → KeysRise 0 rows → i < length rows
    → pos (get_or rows i d).key ≡ z → filter (passes_each c tests) (get_or rows i d ∷ []) ≡ filter (passes_each c tests) rows
one_keyed c tests rows z i d asked rise inside key =
    ap (filter (passes_each c tests)) (sym (filter-one_row rows 0 rise i (get_or rows i d).key d inside refl))
    ∙ sym (filter_both (λ row. row.key == (get_or rows i d).key) (passes_each c tests) rows)
    ∙ sym (filter_agree_on (passes_each c tests) (λ row. (row.key == (get_or rows i d).key) && passes_each c tests row) rows (λ k e within. agree (get_or rows k e) (cases_Bool (passes_each c tests (get_or rows k e)))))
  where
    both-false : (b p : Bool) → p ≡ false → p ≡ (b && p)
    both-false true p h = refl
    both-false false p h = h

    agree : (row : Row) → (passes_each c tests row ≡ true) ⊎ (passes_each c tests row ≡ false) → passes_each c tests row ≡ ((row.key == (get_or rows i d).key) && passes_each c tests row)
    agree row (inl passes) = ap (λ b. b && passes_each c tests row) (sym (eq-eqb row.key (get_or rows i d).key (same-key row.key (get_or rows i d).key z (key_passes c tests row z asked passes) key)))
    agree row (inr fails) = both-false (row.key == (get_or rows i d).key) (passes_each c tests row) fails

-- no row has a key that has not 32 bits
pub none_wide : (rows : List Row) (width : ℕ) (key : ℤ) → All (IsRow width) rows → (FitsUnsignedBits 32 key → ⊥) → All (λ row. pos row.key ≢ key) rows
none_wide rows width key fit wide = λ k d inside same. wide (subst (FitsUnsignedBits 32) same (fit k d inside).key_fits)
