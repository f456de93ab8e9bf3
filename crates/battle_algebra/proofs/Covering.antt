-- Range tests on at most two attributes: by two attributes, and by the number of different ones.
use Rattle.std.proofs.Common.{◌≡◌, ℕ, ◌+◌, ◌≤◌, ◌==◌, Bool, true, false, List, [], ◌∷◌, length, map, refl, ap, sym, ◌∙◌, arith, Option, Some, None}
use Rattle.std.specs.Prelude.{◌&&◌, ◌||◌, not, nat_le, filter, if◌then◌else◌}
use Rattle.std.specs.List.{list_any, list_all}
use Rattle.std.proofs.lemmas.Bool.{false≢true, leb-true}
use Rattle.std.proofs.lemmas.Bool.Decides.{Decides-eqb}
use Rattle.sgl_typed.specs.declared.script.Attr.{Attr}
use Rattle.sgl_typed.specs.declared.script.Attr.TheVariants.{Key, Const}
use Rattle.sgl_typed.specs.declared.script.TTest.{TTest}
use Rattle.battle_algebra.specs.Ways.{number_of, is_range_test, attr_of, same_attr, is_along, covered, first_range, next_range, x_of, y_of}
use Rattle.battle_algebra.proofs.Bools.{bool_by}

-- each number once
abbrev pub once : List ℕ → List ℕ
once [] = []
once (n ∷ ns) = if list_any (λ m. n == m) ns then once ns else n ∷ once ns

-- the attributes of the range tests, by number
abbrev pub range_attrs : List TTest → List ℕ
range_attrs tests = map (λ test. number_of (attr_of test)) (filter is_range_test tests)

abbrev in_axis : Option ℕ → ℕ → Bool
in_axis None k = false
in_axis (Some n) k = k == n

-- the numbers that are not on the axis
abbrev left_out : Option ℕ → List ℕ → List ℕ
left_out x [] = []
left_out x (k ∷ ks) = if in_axis x k then left_out x ks else k ∷ left_out x ks

abbrev is_nil : List ℕ → Bool
is_nil [] = true
is_nil (k ∷ ks) = false

abbrev first_of : List ℕ → Option ℕ
first_of [] = None
first_of (n ∷ ns) = Some n

abbrev all_on : Option ℕ → Option ℕ → List ℕ → Bool
all_on x y ns = list_all (λ k. in_axis x k || in_axis y k) ns

abbrev one_if : Bool → ℕ
one_if true = 1
one_if false = 0

eqb_self : (n : ℕ) → (n == n) ≡ true
eqb_self n = (Decides-eqb n n).1 refl

eqb_swap : (a b : ℕ) → (a == b) ≡ (b == a)
eqb_swap a b = bool_by (a == b) (b == a) (λ h. (Decides-eqb b a).1 (sym ((Decides-eqb a b).0 h))) (λ h. (Decides-eqb a b).1 (sym ((Decides-eqb b a).0 h)))

all_on-left : (x y : Option ℕ) (ns : List ℕ) → all_on x y ns ≡ is_nil (left_out y (left_out x ns))
all_on-left x y [] = refl
all_on-left x y (k ∷ ks) = step (in_axis x k) (in_axis y k) refl (all_on-left x y ks)
  where
    step : (b c : Bool) → in_axis y k ≡ c → all_on x y ks ≡ is_nil (left_out y (left_out x ks)) → ((b || c) && all_on x y ks) ≡ is_nil (left_out y (if b then left_out x ks else k ∷ left_out x ks))
    step true c is ih = ih
    step false true is ih = ih ∙ ap (λ d. is_nil (if d then left_out y (left_out x ks) else k ∷ left_out y (left_out x ks))) (sym is)
    step false false is ih = ap (λ d. is_nil (if d then left_out y (left_out x ks) else k ∷ left_out y (left_out x ks))) (sym is)

any-left : (n m : ℕ) (ns : List ℕ) → (m == n) ≡ false → list_any (λ k. m == k) (left_out (Some n) ns) ≡ list_any (λ k. m == k) ns
any-left n m [] other = refl
any-left n m (k ∷ ns) other = step (k == n) refl (any-left n m ns other)
  where
    step : (b : Bool) → (k == n) ≡ b → list_any (λ j. m == j) (left_out (Some n) ns) ≡ list_any (λ j. m == j) ns → list_any (λ j. m == j) (if b then left_out (Some n) ns else k ∷ left_out (Some n) ns) ≡ ((m == k) || list_any (λ j. m == j) ns)
    step true is ih =
        let own : (m == k) ≡ false = ap (λ j. m == j) ((Decides-eqb k n).0 is) ∙ other in
        ih ∙ ap (λ b. b || list_any (λ j. m == j) ns) (sym own)
    step false is ih = ap (λ b. (m == k) || b) ih

-- one number counts once
once-left : (n : ℕ) (ns : List ℕ) → length (once ns) ≡ one_if (list_any (λ k. n == k) ns) + length (once (left_out (Some n) ns))
once-left n [] = refl
once-left n (m ∷ ns) = step (m == n) refl (once-left n ns) ∙ ap (λ b. one_if (b || list_any (λ k. n == k) ns) + length (once (left_out (Some n) (m ∷ ns)))) (eqb_swap m n)
  where
    with_m : (c : Bool) → length (once ns) ≡ one_if (list_any (λ k. n == k) ns) + length (once (left_out (Some n) ns)) → list_any (λ k. n == k) ns ≡ c → length (if c then once ns else n ∷ once ns) ≡ 1 + length (once (left_out (Some n) ns))
    with_m true ih has = ih ∙ ap (λ c. one_if c + length (once (left_out (Some n) ns))) has
    with_m false ih has =
        let r : length (once ns) ≡ 0 + length (once (left_out (Some n) ns)) = ih ∙ ap (λ c. one_if c + length (once (left_out (Some n) ns))) has in
        omega (arith, r)

    past_m : (c : Bool) → length (once ns) ≡ one_if (list_any (λ k. n == k) ns) + length (once (left_out (Some n) ns)) → length (if c then once ns else m ∷ once ns) ≡ one_if (list_any (λ k. n == k) ns) + length (if c then once (left_out (Some n) ns) else m ∷ once (left_out (Some n) ns))
    past_m true ih = ih
    past_m false ih = omega (arith, ih)

    step : (b : Bool) → (m == n) ≡ b → length (once ns) ≡ one_if (list_any (λ k. n == k) ns) + length (once (left_out (Some n) ns)) → length (if list_any (λ k. m == k) ns then once ns else m ∷ once ns) ≡ one_if (b || list_any (λ k. n == k) ns) + length (once (if b then left_out (Some n) ns else m ∷ left_out (Some n) ns))
    step true is ih = ap (λ j. length (if list_any (λ k. j == k) ns then once ns else j ∷ once ns)) ((Decides-eqb m n).0 is) ∙ with_m (list_any (λ k. n == k) ns) ih refl
    step false is ih =
        past_m (list_any (λ k. m == k) ns) ih
        ∙ ap (λ c. one_if (list_any (λ k. n == k) ns) + length (if c then once (left_out (Some n) ns) else m ∷ once (left_out (Some n) ns))) (sym (any-left n m ns is))

-- the first number counts once
once-first : (n : ℕ) (ns : List ℕ) → length (once (n ∷ ns)) ≡ 1 + length (once (left_out (Some n) (n ∷ ns)))
once-first n ns = once-left n (n ∷ ns) ∙ ap (λ b. one_if (b || list_any (λ k. n == k) ns) + length (once (left_out (Some n) (n ∷ ns)))) (eqb_self n)

numbers_covered : (ns : List ℕ) → all_on (first_of ns) (first_of (left_out (first_of ns) ns)) ns ≡ nat_le (length (once ns)) 2
numbers_covered [] = refl
numbers_covered (n ∷ ns) = all_on-left (Some n) (first_of (left_out (Some n) (n ∷ ns))) (n ∷ ns) ∙ step (left_out (Some n) (n ∷ ns)) refl
  where
    two : (vs : List ℕ) (len : ℕ) → len ≡ 2 + length (once vs) → is_nil vs ≡ nat_le len 2
    two [] len is = ap (λ k. nat_le 2 2) is ∙ ap (λ k. nat_le k 2) (sym is)
    two (v ∷ vs) len is =
        bool_by false (nat_le len 2) (λ h. absurd (false≢true h)) (λ h. let less : len ≤ 2 = leb-true len 2 h in absurd (omega (arith, is, once-first v vs, less)))

    step : (ws : List ℕ) → left_out (Some n) (n ∷ ns) ≡ ws → is_nil (left_out (first_of ws) ws) ≡ nat_le (length (once (n ∷ ns))) 2
    step [] is =
        let one : length (once (n ∷ ns)) ≡ 1 = once-first n ns ∙ ap (λ xs. 1 + length (once xs)) is in
        ap (λ k. nat_le k 2) (sym one)
    step (m ∷ ws) is =
        let one : length (once (n ∷ ns)) ≡ 1 + length (once (m ∷ ws)) = once-first n ns ∙ ap (λ xs. 1 + length (once xs)) is in
        two (left_out (Some m) (m ∷ ws)) (length (once (n ∷ ns))) (omega (arith, one, once-first m ws))

-- ---- attributes by number

abbrev number_in : Option Attr → Option ℕ
number_in None = None
number_in (Some attr) = Some (number_of attr)

same-number : (a b : Attr) → same_attr a b ≡ (number_of a == number_of b)
same-number Key Key = refl
same-number Key (Const j) = bool_by false (0 == (j + 1)) (λ h. absurd (false≢true h)) (λ h. let e : 0 ≡ j + 1 = (Decides-eqb 0 (j + 1)).0 h in absurd (omega (arith, e)))
same-number (Const i) Key = bool_by false ((i + 1) == 0) (λ h. absurd (false≢true h)) (λ h. let e : (i + 1) ≡ 0 = (Decides-eqb (i + 1) 0).0 h in absurd (omega (arith, e)))
same-number (Const i) (Const j) =
    bool_by (i == j) ((i + 1) == (j + 1)) (λ h. (Decides-eqb (i + 1) (j + 1)).1 (ap (λ n. n + 1) ((Decides-eqb i j).0 h)))
    (λ h. let e : (i + 1) ≡ j + 1 = (Decides-eqb (i + 1) (j + 1)).0 h in (Decides-eqb i j).1 (omega (arith, e)))

along-number : (x : Option Attr) (test : TTest) → is_along x test ≡ (is_range_test test && in_axis (number_in x) (number_of (attr_of test)))
along-number None test = none (is_range_test test)
  where
    none : (b : Bool) → false ≡ (b && false)
    none true = refl
    none false = refl
along-number (Some attr) test = ap (λ b. is_range_test test && b) (same-number (attr_of test) attr)

attrs-more : (test : TTest) (tests : List TTest) → range_attrs (test ∷ tests) ≡ (if is_range_test test then number_of (attr_of test) ∷ range_attrs tests else range_attrs tests)
attrs-more test tests = step (is_range_test test)
  where
    step : (b : Bool) → map (λ test. number_of (attr_of test)) (if b then test ∷ filter is_range_test tests else filter is_range_test tests) ≡ (if b then number_of (attr_of test) ∷ range_attrs tests else range_attrs tests)
    step true = refl
    step false = refl

covered-numbers : (x y : Option Attr) (tests : List TTest) → covered x y tests ≡ all_on (number_in x) (number_in y) (range_attrs tests)
covered-numbers x y [] = refl
covered-numbers x y (test ∷ tests) =
    (λ i. (not (is_range_test test) || (along-number x test i || along-number y test i)) && covered-numbers x y tests i)
    ∙ step (is_range_test test) ∙ ap (all_on (number_in x) (number_in y)) (sym (attrs-more test tests))
  where
    step : (b : Bool) → ((not b || ((b && in_axis (number_in x) (number_of (attr_of test))) || (b && in_axis (number_in y) (number_of (attr_of test))))) && all_on (number_in x) (number_in y) (range_attrs tests))
        ≡ all_on (number_in x) (number_in y) (if b then number_of (attr_of test) ∷ range_attrs tests else range_attrs tests)
    step true = refl
    step false = refl

first-number : (tests : List TTest) → number_in (first_range tests) ≡ first_of (range_attrs tests)
first-number [] = refl
first-number (test ∷ tests) = step (is_range_test test) (first-number tests) ∙ ap first_of (sym (attrs-more test tests))
  where
    step : (b : Bool) → number_in (first_range tests) ≡ first_of (range_attrs tests) → number_in (if b then Some (attr_of test) else first_range tests) ≡ first_of (if b then number_of (attr_of test) ∷ range_attrs tests else range_attrs tests)
    step true ih = refl
    step false ih = ih

next-number : (x : Option Attr) (tests : List TTest) → number_in (next_range x tests) ≡ first_of (left_out (number_in x) (range_attrs tests))
next-number x [] = refl
next-number x (test ∷ tests) =
    ap (λ b. number_in (if is_range_test test && not b then Some (attr_of test) else next_range x tests)) (along-number x test)
    ∙ step (is_range_test test) (in_axis (number_in x) (number_of (attr_of test))) refl (next-number x tests) ∙ ap (λ ns. first_of (left_out (number_in x) ns)) (sym (attrs-more test tests))
  where
    step : (b c : Bool) → in_axis (number_in x) (number_of (attr_of test)) ≡ c → number_in (next_range x tests) ≡ first_of (left_out (number_in x) (range_attrs tests)) → number_in (if b && not (b && c) then Some (attr_of test) else next_range x tests)
        ≡ first_of (left_out (number_in x) (if b then number_of (attr_of test) ∷ range_attrs tests else range_attrs tests))
    step true true is ih = ih ∙ ap (λ d. first_of (if d then left_out (number_in x) (range_attrs tests) else number_of (attr_of test) ∷ left_out (number_in x) (range_attrs tests))) (sym is)
    step true false is ih = ap (λ d. first_of (if d then left_out (number_in x) (range_attrs tests) else number_of (attr_of test) ∷ left_out (number_in x) (range_attrs tests))) (sym is)
    step false c is ih = ih

-- range tests on at most two different attributes are on the first and on the next other one
pub covered-once : (tests : List TTest) → covered (x_of tests) (y_of tests) tests ≡ nat_le (length (once (range_attrs tests))) 2
covered-once tests =
    covered-numbers (x_of tests) (y_of tests) tests
    ∙ (λ i. all_on (first-number tests i) (next-number (x_of tests) tests i) (range_attrs tests))
    ∙ ap (λ x. all_on (first_of (range_attrs tests)) (first_of (left_out x (range_attrs tests))) (range_attrs tests)) (first-number tests)
    ∙ numbers_covered (range_attrs tests)
