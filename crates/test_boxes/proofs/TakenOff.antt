-- An unequal test taken off: what passes without it, less what passes with it turned into an equal one.
use Rattle.std.proofs.Common.{◌≡◌, ℤ, ◌+◌, ◌+ℤ◌, ◌-ℤ◌, Bool, true, false, not, ◌&&◌, cond, List, [], ◌∷◌, length, refl, ap, sym, ◌∙◌, arith}
use Rattle.std.specs.Prelude.{filter}
use Rattle.std.specs.List.{list_all, list_any}
use Rattle.std.specs.Ordering.{int_eq}
use Rattle.std.proofs.lemmas.Bool.{false≢true, or_parts}
use Rattle.std.proofs.lemmas.Int.{ints}
use Rattle.std.proofs.lemmas.List.Elements.{filter_agree}
use Rattle.sgl_values.specs.World.{Row}
use Rattle.sgl_values.specs.declared.operator.CmpOp.{CmpOp}
use Rattle.sgl_values.specs.declared.operator.CmpOp.TheVariants.{Eq, Ne, Lt, Le, Gt, Ge}
use Rattle.sgl_typed.specs.declared.script.Attr.{Attr}
use Rattle.sgl_typed.specs.declared.script.TTest.{TTest}
use Rattle.sgl_typed.specs.declared.script.TTest.TheVariants.{Compare, Within}
use Rattle.sgl_typed.specs.Aggregate.{meets, sum_of}
use Rattle.sgl_typed.specs.Value.{Context, attribute, compares}
use Rattle.sgl_evaluate.specs.Rights.{passes_each, right_of}
use Rattle.battle_algebra.specs.Ways.{is_circle, is_unequal, is_unequal_test}
use Rattle.test_boxes.specs.declared.reading.Reading.{Reading}
use Rattle.test_boxes.specs.declared.reading.Reading.TheVariants.{Plain, Away, Alike}
use Rattle.test_boxes.specs.Readings.{compares_read, is_alike_at, meets_read, passes_read, passes_turned, passes_unequal, unequal_read, unequals}
use Rattle.test_boxes.proofs.Filters.{count_split, sum_split}

-- ---- truths

and-true : (b : Bool) → b ≡ (b && true)
and-true true = refl
and-true false = refl

four : (a b c d : Bool) → ((a && b) && (c && d)) ≡ ((a && c) && (b && d))
four true true c d = refl
four true false true d = refl
four true false false d = refl
four false b c d = refl

module _ {A : Type 0} where
  list_all-both : (p q r : A → Bool) → ((x : A) → p x ≡ (q x && r x)) → (xs : List A) → list_all p xs ≡ (list_all q xs && list_all r xs)
  list_all-both p q r each [] = refl
  list_all-both p q r each (x ∷ xs) =
      ap (λ b. b && list_all p xs) (each x) ∙ ap (λ b. (q x && r x) && b) (list_all-both p q r each xs) ∙ four (q x) (r x) (list_all q xs) (list_all r xs)

-- ---- the three readings of one test

op-read : (how : Reading) (f : Bool → Bool) → ((v z : ℤ) → unequal_read how v z ≡ f (int_eq v z))
    → (op : CmpOp) (v z : ℤ) → compares_read how op v z ≡ (compares_read Away op v z && cond (is_unequal op) (f (int_eq v z)) true)
op-read how f is Eq v z = and-true (int_eq v z)
op-read how f is Ne v z = is v z
op-read how f is Lt v z = and-true (compares Lt v z)
op-read how f is Le v z = and-true (compares Le v z)
op-read how f is Gt v z = and-true (compares Gt v z)
op-read how f is Ge v z = and-true (compares Ge v z)

as-it-stands : (op : CmpOp) (v z : ℤ) → compares op v z ≡ compares_read Plain op v z
as-it-stands Eq v z = refl
as-it-stands Ne v z = refl
as-it-stands Lt v z = refl
as-it-stands Le v z = refl
as-it-stands Gt v z = refl
as-it-stands Ge v z = refl

-- a test is what it is away, and, where it is unequal, what it is read as
test-read : (how : Reading) (f : Bool → Bool) → ((v z : ℤ) → unequal_read how v z ≡ f (int_eq v z)) → (right : TTest → ℤ) (row : Row) (test : TTest)
    → meets_read how row test (right test) ≡ (meets_read Away row test (right test) && cond (is_unequal_test test) (f (is_alike_at right row test)) true)
test-read how f is right row (Compare attr op value) = op-read how f is op (attribute attr row) (right (Compare attr op value))
test-read how f is right row (Within x y radius) = refl

test-stands : (unit row : Row) (test : TTest) (z : ℤ) → is_circle test ≡ false → meets unit row test z ≡ meets_read Plain row test z
test-stands unit row (Compare attr op value) z none = as-it-stands op (attribute attr row) z
test-stands unit row (Within x y radius) z none = absurd (false≢true (sym none))

-- ---- of all tests

-- as they stand, where none is a circle
pub each_read : (c : Context) (tests : List TTest) (row : Row) → list_any is_circle tests ≡ false → passes_each c tests row ≡ passes_read Plain (right_of c) tests row
each_read c [] row none = refl
each_read c (test ∷ tests) row none =
    let parts = or_parts (is_circle test) (list_any is_circle tests) none in
    λ i. test-stands c.unit row test (right_of c test) parts.0 i && each_read c tests row parts.1 i

pub plain_is : (right : TTest → ℤ) (tests : List TTest) (row : Row) → passes_read Plain right tests row ≡ (passes_read Away right tests row && passes_unequal right tests row)
plain_is right tests row = list_all-both _ _ _ (test-read Plain not (λ v z. refl) right row) tests

pub alike_is : (right : TTest → ℤ) (tests : List TTest) (row : Row) → passes_read Alike right tests row ≡ (passes_read Away right tests row && passes_turned right tests row)
alike_is right tests row = list_all-both _ _ _ (test-read Alike (λ b. b) (λ v z. refl) right row) tests

abbrev NoneLeft : (TTest → ℤ) → Row → List TTest → Type 0
NoneLeft right row tests = (passes_unequal right tests row ≡ true) × (passes_turned right tests row ≡ true)

none-more : (right : TTest → ℤ) (row : Row) (test : TTest) (tests : List TTest) (b : Bool) → (length (unequals tests) ≡ 0 → NoneLeft right row tests)
    → length (cond b (test ∷ unequals tests) (unequals tests)) ≡ 0
    → ((cond b (not (is_alike_at right row test)) true && passes_unequal right tests row) ≡ true)
    × ((cond b (is_alike_at right row test) true && passes_turned right tests row) ≡ true)
none-more right row test tests true later none = absurd (omega (arith, none))
none-more right row test tests false later none = later none

-- where no test is unequal
none-unequal : (right : TTest → ℤ) (tests : List TTest) (row : Row) → length (unequals tests) ≡ 0 → NoneLeft right row tests
none-unequal right [] row none = (refl, refl)
none-unequal right (test ∷ tests) row none = none-more right row test tests (is_unequal_test test) (none-unequal right tests row) none

with_true : (e p q : Bool) → p ≡ true → q ≡ true → (not e && p) ≡ not (e && q)
with_true true p q hp hq = sym (ap not hq)
with_true false p q hp hq = hp

one-more : (right : TTest → ℤ) (row : Row) (test : TTest) (tests : List TTest) (b : Bool)
    → (length (unequals tests) ≡ 1 → passes_unequal right tests row ≡ not (passes_turned right tests row))
    → length (cond b (test ∷ unequals tests) (unequals tests)) ≡ 1
    → (cond b (not (is_alike_at right row test)) true && passes_unequal right tests row)
    ≡ not (cond b (is_alike_at right row test) true && passes_turned right tests row)
one-more right row test tests true later one =
    let none = none-unequal right tests row (omega (arith, one)) in
    with_true (is_alike_at right row test) _ _ none.0 none.1
one-more right row test tests false later one = later one

-- with one unequal test, a row passes it where it does not pass it turned
pub turned_is : (right : TTest → ℤ) (tests : List TTest) (row : Row) → length (unequals tests) ≡ 1 → passes_unequal right tests row ≡ not (passes_turned right tests row)
turned_is right [] row one = absurd (omega (arith, one))
turned_is right (test ∷ tests) row one = one-more right row test tests (is_unequal_test test) (turned_is right tests row) one

-- ---- counts and sums

module _ (c : Context) (tests : List TTest) (rows : List Row) (no_circle : list_any is_circle tests ≡ false) where
  none-filter : length (unequals tests) ≡ 0 → filter (passes_each c tests) rows ≡ filter (passes_read Away (right_of c) tests) rows
  none-filter none = filter_agree _ _ (λ row.
      each_read c tests row no_circle ∙ plain_is (right_of c) tests row
      ∙ ap (λ b. passes_read Away (right_of c) tests row && b) (none-unequal (right_of c) tests row none).0
      ∙ sym (and-true (passes_read Away (right_of c) tests row))) rows

  one-filter : length (unequals tests) ≡ 1
      → filter (passes_each c tests) rows ≡ filter (λ row. passes_read Away (right_of c) tests row && not (passes_turned (right_of c) tests row)) rows
  one-filter one = filter_agree _ _ (λ row.
      each_read c tests row no_circle ∙ plain_is (right_of c) tests row
      ∙ ap (λ b. passes_read Away (right_of c) tests row && b) (turned_is (right_of c) tests row one)) rows

  turned-filter : filter (passes_read Alike (right_of c) tests) rows ≡ filter (λ row. passes_read Away (right_of c) tests row && passes_turned (right_of c) tests row) rows
  turned-filter = filter_agree _ _ (alike_is (right_of c) tests) rows

  -- without an unequal test nothing is taken off
  pub count_without : length (unequals tests) ≡ 0 → length (filter (passes_read Away (right_of c) tests) rows) ≡ length (filter (passes_each c tests) rows)
  count_without none = ap length (sym (none-filter none))

  -- the count with the turned test is taken off
  pub count_off : length (unequals tests) ≡ 1
      → length (filter (passes_read Alike (right_of c) tests) rows) + length (filter (passes_each c tests) rows) ≡ length (filter (passes_read Away (right_of c) tests) rows)
  count_off one =
      (λ i. length (turned-filter i) + length (one-filter one i))
      ∙ count_split (passes_read Away (right_of c) tests) (passes_turned (right_of c) tests) rows

  pub sum_without : (attr : Attr) → length (unequals tests) ≡ 0 → sum_of attr (filter (passes_read Away (right_of c) tests) rows) ≡ sum_of attr (filter (passes_each c tests) rows)
  sum_without attr none = ap (sum_of attr) (sym (none-filter none))

  pub sum_off : (attr : Attr) → length (unequals tests) ≡ 1
      → sum_of attr (filter (passes_read Away (right_of c) tests) rows) -ℤ sum_of attr (filter (passes_read Alike (right_of c) tests) rows) ≡ sum_of attr (filter (passes_each c tests) rows)
  sum_off attr one =
      let whole : sum_of attr (filter (passes_read Alike (right_of c) tests) rows) +ℤ sum_of attr (filter (passes_each c tests) rows) ≡ sum_of attr (filter (passes_read Away (right_of c) tests) rows) =
      (λ i. sum_of attr (turned-filter i) +ℤ sum_of attr (one-filter one i))
      ∙ sum_split attr (passes_read Away (right_of c) tests) (passes_turned (right_of c) tests) rows in
      omega (arith, ints, whole)
