-- One test more: of a key, of the attributes of groups, and of a span.
use Rattle.std.proofs.Common.{◌≡◌, ℕ, ℤ, pos, ◌+◌, ◌<◌, ◌≤◌, Bool, true, false, ◌&&◌, cond, List, [], ◌∷◌, ◌++◌, length, map, take, drop, get_or, Option, None, Some, refl, ap, sym, ◌∙◌, subst, arith}
use Rattle.std.specs.List.{list_all}
use Rattle.std.specs.Prelude.{negsuc, int_le, ◌≤ℤ◌, slice_set}
use Rattle.std.proofs.lemmas.Int.{ints}
use Rattle.std.proofs.lemmas.List.{append-nil, get_or_default, get_or-map, get_or-take, length-append, length-map, length-take, length_push, map-append, take-append-drop, take_more}
use Rattle.std.proofs.lemmas.List.Elements.{filter-append, filter_more}
use Rattle.std.proofs.lemmas.List.Folds.{list_all_more}
use Rattle.std.proofs.lemmas.Bool.{and_parts, false≢true}
use Rattle.std.proofs.lemmas.Option.{none-some, same_Some}
use Rattle.sgl_values.specs.Range.{in_range}
use Rattle.sgl_typed.specs.declared.script.Attr.{Attr}
use Rattle.sgl_values.specs.declared.operator.CmpOp.{CmpOp}
use Rattle.sgl_values.specs.declared.operator.CmpOp.TheVariants.{Eq}
use Rattle.sgl_typed.specs.declared.script.Attr.TheVariants.{Key}
use Rattle.sgl_typed.specs.declared.script.TExpr.{TExpr}
use Rattle.sgl_typed.specs.declared.script.TExpr.TheVariants.{Number as Literal}
use Rattle.sgl_typed.specs.declared.script.TTest.{TTest}
use Rattle.sgl_typed.specs.declared.script.TTest.TheVariants.{Compare, Within}
use Rattle.sgl_typed.specs.Value.{compares}
use Rattle.battle_algebra.specs.Ways.{attr_of, is_along, is_range, same_attr}
use Rattle.row_groups.specs.Keys.{four_of}
use Rattle.test_boxes.specs.declared.key.Values.{Values}
use Rattle.test_boxes.specs.declared.key_form.KeyForm.{KeyForm}
use Rattle.test_boxes.specs.declared.reading.Reading.{Reading}
use Rattle.test_boxes.specs.declared.span.Span.{Span}
use Rattle.test_boxes.specs.declared.span_form.Bound.{Bound}
use Rattle.test_boxes.specs.declared.span_form.SpanForm.{SpanForm}
use Rattle.test_boxes.specs.Forms.{AreBelow, ArePicked, op_along, passes_bound}
use Rattle.test_boxes.specs.Keys.{AreValues}
use Rattle.test_boxes.specs.Ranges.{holds, meets_along, meets_number, passes_along, IsSpan}
use Rattle.test_boxes.specs.Readings.{groups_by, grouping}

-- ---- keys

-- one value more
pub four_push : (zs : List ℤ) (z : ℤ) → length zs < 4 → slice_set (four_of zs) (length zs) z ≡ four_of (zs ++ z ∷ [])
four_push [] z few = refl
four_push (a ∷ []) z few = refl
four_push (a ∷ b ∷ []) z few = refl
four_push (a ∷ b ∷ c ∷ []) z few = refl
four_push (a ∷ b ∷ c ∷ d ∷ zs) z few = absurd (omega (arith, few))

-- a fifth one is left out
pub four_full : (zs : List ℤ) (z : ℤ) → 4 ≤ length zs → four_of zs ≡ four_of (zs ++ z ∷ [])
four_full [] z many = absurd (omega (arith, many))
four_full (a ∷ []) z many = absurd (omega (arith, many))
four_full (a ∷ b ∷ []) z many = absurd (omega (arith, many))
four_full (a ∷ b ∷ c ∷ []) z many = absurd (omega (arith, many))
four_full (a ∷ b ∷ c ∷ d ∷ zs) z many = refl

-- ---- the tests that number groups

module _ (how : Reading) (tests : List TTest) (i : ℕ) (test : TTest) (lt : i < length tests) (is : test ≡ get_or tests i test) where
  grouping-more : (b : Bool) → groups_by how test ≡ b → grouping how (take (i + 1) tests) ≡ grouping how (take i tests) ++ cond b (test ∷ []) []
  grouping-more b h =
      filter_more (groups_by how) tests i test lt
      ∙ ap (λ (t : TTest). grouping how (take i tests) ++ cond (groups_by how t) (t ∷ []) []) (sym is)
      ∙ ap (λ c. grouping how (take i tests) ++ cond c (test ∷ []) []) h

  pub grouping_longer : groups_by how test ≡ true → grouping how (take (i + 1) tests) ≡ grouping how (take i tests) ++ test ∷ []
  grouping_longer h = grouping-more true h

  pub grouping_same : groups_by how test ≡ false → grouping how (take (i + 1) tests) ≡ grouping how (take i tests)
  grouping_same h = grouping-more false h ∙ append-nil (grouping how (take i tests))

  -- and there is room for its value
  pub grouping_before : groups_by how test ≡ true → length (grouping how (take i tests)) < length (grouping how tests)
  grouping_before h =
      let whole : grouping how tests ≡ grouping how (take (i + 1) tests) ++ grouping how (drop (i + 1) tests) =
      ap (grouping how) (sym (take-append-drop (i + 1) tests)) ∙ filter-append (groups_by how) (take (i + 1) tests) (drop (i + 1) tests) in
      let long : length (grouping how tests) ≡ length (grouping how (take (i + 1) tests)) + length (grouping how (drop (i + 1) tests)) =
      ap length whole ∙ length-append (grouping how (take (i + 1) tests)) (grouping how (drop (i + 1) tests)) in
      let more : length (grouping how (take (i + 1) tests)) ≡ length (grouping how (take i tests)) + 1 = ap length (grouping_longer h) ∙ length_push (grouping how (take i tests)) test in
      omega (arith, long, more)

  -- the key so far, and of one test more
  pub key_longer : (f : TTest → ℤ) (values next : Values) (value : ℤ) → groups_by how test ≡ true → value ≡ f test
      → AreValues values (map f (grouping how (take i tests)))
      → ((zs : List ℤ) → AreValues values zs → AreValues next (zs ++ value ∷ []))
      → AreValues next (map f (grouping how (take (i + 1) tests)))
  key_longer f values next value h same before pushed =
      let whole : map f (grouping how (take i tests)) ++ value ∷ [] ≡ map f (grouping how (take (i + 1) tests)) =
      ap (λ z. map f (grouping how (take i tests)) ++ z ∷ []) same ∙ sym (map-append f (grouping how (take i tests)) (test ∷ [])) ∙ ap (map f) (sym (grouping_longer h)) in
      let P : List ℤ → Type 0 = AreValues next in subst P whole (pushed (map f (grouping how (take i tests))) before)

  pub key_same : (f : TTest → ℤ) (values : Values) → groups_by how test ≡ false → AreValues values (map f (grouping how (take i tests)))
      → AreValues values (map f (grouping how (take (i + 1) tests)))
  key_same f values h before = let P : List TTest → Type 0 = λ ts. AreValues values (map f ts) in subst P (sym (grouping_same h)) before

  -- the attributes so far, and of one test more
  pub attrs_longer : (attrs next : List Attr) (attr : Attr) → groups_by how test ≡ true → attr ≡ attr_of test → attrs ≡ map attr_of (grouping how (take i tests)) → next ≡ attrs ++ attr ∷ []
      → next ≡ map attr_of (grouping how (take (i + 1) tests))
  attrs_longer attrs next attr h same before pushed =
      pushed ∙ (λ j. before j ++ same j ∷ []) ∙ sym (map-append attr_of (grouping how (take i tests)) (test ∷ [])) ∙ ap (map attr_of) (sym (grouping_longer h))

  pub attrs_before : (attrs : List Attr) → groups_by how test ≡ true → length (grouping how tests) ≤ 4 → attrs ≡ map attr_of (grouping how (take i tests)) → length attrs < 4
  attrs_before attrs h few before = omega (arith, few, grouping_before h, ap length before, length-map (grouping how (take i tests)) attr_of)

  pub attrs_same : (attrs : List Attr) → groups_by how test ≡ false → attrs ≡ map attr_of (grouping how (take i tests)) → attrs ≡ map attr_of (grouping how (take (i + 1) tests))
  attrs_same attrs h before = before ∙ ap (map attr_of) (sym (grouping_same h))

-- ---- spans

turn : (a b c : Bool) → (a && (b && c)) ≡ (b && (c && a))
turn true true true = refl
turn true true false = refl
turn true false c = refl
turn false true true = refl
turn false true false = refl
turn false false c = refl

-- the span so far, and of one test more
pub span_more : (axis : Option Attr) (right : TTest → ℤ) (tests : List TTest) (i : ℕ) (test : TTest) (z : ℤ) (now next : Span) → i < length tests → test ≡ get_or tests i test → z ≡ right test
    → IsSpan now axis right (take i tests) → ((v : ℤ) → holds next v ≡ (cond (is_along axis test) (meets_number test v z) true && holds now v))
    → IsSpan next axis right (take (i + 1) tests)
span_more axis right tests i test z now next lt is same before step = λ v.
    step v ∙ (λ j. cond (is_along axis test) (meets_number test v (same j)) true && before v j)
    ∙ turn (meets_along axis right v test) (in_range v) (passes_along axis right (take i tests) v)
    ∙ ap (λ b. in_range v && (passes_along axis right (take i tests) v && b)) (ap (meets_along axis right v) is)
    ∙ ap (λ b. in_range v && b) (sym (list_all_more (meets_along axis right v) tests i test lt))

-- ---- comparisons along an axis

none-by : (b : Bool) (op : CmpOp) (m : Bool) → None ≡ cond b (Some op) None → true ≡ cond b m true
none-by true op m is = absurd (none-some op is)
none-by false op m is = refl

some-by : (b : Bool) (op own : CmpOp) → Some op ≡ cond b (Some own) None → (b ≡ true) × (op ≡ own)
some-by true op own is = (refl, same_Some op own is)
some-by false op own is = absurd (none-some op (sym is))

circle-free : (axis : Option Attr) (x y : Attr) (radius : TExpr) → is_along axis (Within x y radius) ≡ false
circle-free None x y radius = refl
circle-free (Some attr) x y radius = refl

along-range : (axis : Option Attr) (attr : Attr) (op : CmpOp) (right : TExpr) → is_along axis (Compare attr op right) ≡ true → is_range op ≡ true
along-range None attr op right is = absurd (false≢true is)
along-range (Some own) attr op right is = (and_parts (is_range op) (same_attr attr own) is).0

-- a test that is no range test along the axis bounds nothing
pub along_none : (axis : Option Attr) (test : TTest) (v z : ℤ) → None ≡ op_along axis test → true ≡ cond (is_along axis test) (meets_number test v z) true
along_none axis (Compare attr op right) v z is = none-by (is_along axis (Compare attr op right)) op (compares op v z) is
along_none axis (Within x y radius) v z is = ap (λ b. cond b true true) (sym (circle-free axis x y radius))

-- another one bounds by its comparison
pub along_some : (axis : Option Attr) (test : TTest) (op : CmpOp) (v z : ℤ) → Some op ≡ op_along axis test
    → cond (is_range op) (compares op v z) true ≡ cond (is_along axis test) (meets_number test v z) true
along_some axis (Compare attr own right) op v z is =
    let both = some-by (is_along axis (Compare attr own right)) op own is in
    ap (λ (o : CmpOp). cond (is_range o) (compares o v z) true) both.1
    ∙ ap (λ b. cond b (compares own v z) true) (along-range axis attr own right both.0 ∙ sym both.0)
along_some axis (Within x y radius) op v z is = absurd (none-some op (sym is))

-- ---- bounds along an axis

-- the span so far, and of one bound more
pub bound_more : (right : TTest → ℤ) (tests : List TTest) (d : TTest) (bounds : List Bound) (i : ℕ) (bound : Bound) (z v : ℤ) (before : Bool) (now next : Span) → i < length bounds
    → bound ≡ get_or bounds i bound → z ≡ right (get_or tests bound.number d)
    → holds now v ≡ (before && list_all (passes_bound right tests d v) (take i bounds))
    → holds next v ≡ (cond (is_range bound.op) (compares bound.op v z) true && holds now v)
    → holds next v ≡ (before && list_all (passes_bound right tests d v) (take (i + 1) bounds))
bound_more right tests d bounds i bound z v before now next lt is same held step =
    let passes : Bound → Bool = passes_bound right tests d v in
    step ∙ (λ j. cond (is_range bound.op) (compares bound.op v (same j)) true && held j)
    ∙ turn (passes bound) before (list_all passes (take i bounds))
    ∙ ap (λ b. before && (list_all passes (take i bounds) && b)) (ap passes is)
    ∙ ap (λ b. before && b) (sym (list_all_more passes bounds i bound lt))

pub below_weaker : (form : SpanForm) (least most : ℕ) → least ≤ most → AreBelow form least → AreBelow form most
below_weaker form least most le are = record {
  low = λ end is. let lt = are.low end is in omega (arith, lt, le);
  high = λ end is. let lt = are.high end is in omega (arith, lt, le);
  others = λ i d inside. let lt = are.others i d inside in omega (arith, lt, le);
}

-- the form of a span so far, and of one test more
with-true : (b : Bool) → b ≡ (b && true)
with-true true = refl
with-true false = refl

module _ (axis : Option Attr) (right : TTest → ℤ) (tests : List TTest) (v : ℤ) (i : ℕ) (test : TTest) (lt : i < length tests) (is : test ≡ get_or tests i test) where
  pub form_longer : (d : TTest) (op : CmpOp) (now next : Bool) → Some op ≡ op_along axis test
      → now ≡ passes_along axis right (take i tests) v → next ≡ (now && cond (is_range op) (compares op v (right (get_or tests i d))) true)
      → next ≡ passes_along axis right (take (i + 1) tests) v
  form_longer d op now next found before put =
      let same : get_or tests i d ≡ test = sym (is ∙ get_or_default tests i test d lt) in
      put ∙ (λ j. before j && cond (is_range op) (compares op v (right (same j))) true)
      ∙ ap (λ b. passes_along axis right (take i tests) v && b) (along_some axis test op v (right test) found ∙ ap (meets_along axis right v) is)
      ∙ sym (list_all_more (meets_along axis right v) tests i test lt)

  pub form_same : (now : Bool) → None ≡ op_along axis test → now ≡ passes_along axis right (take i tests) v → now ≡ passes_along axis right (take (i + 1) tests) v
  form_same now found before =
      before ∙ with-true (passes_along axis right (take i tests) v)
      ∙ ap (λ b. passes_along axis right (take i tests) v && b) (along_none axis test v (right test) found ∙ ap (meets_along axis right v) is)
      ∙ sym (list_all_more (meets_along axis right v) tests i test lt)

-- ---- the ends of a span

pub in_range_is : (v : ℤ) → (int_le (negsuc 999999999999) v && int_le v (pos 1000000000000)) ≡ in_range v
in_range_is v = grind (arith, ints)

pub low_end : (x v : ℤ) → negsuc 999999999999 ≤ℤ x → int_le x v ≡ (int_le x v && int_le (negsuc 999999999999) v)
low_end x v least = grind (arith, ints)

pub high_end : (x v : ℤ) → x ≤ℤ pos 1000000000000 → int_le v x ≡ (int_le v x && int_le v (pos 1000000000000))
high_end x v most = grind (arith, ints)

-- what an end lets through, of which a bound holds as well: it is so far away from a right side, as it was read
pub end_is : (keeps : ℤ → Bool) (moved : ℤ → ℤ) (bound : Bool) (told end read right : ℤ) → told ≡ end → keeps end ≡ (keeps end && bound) → end ≡ moved read → read ≡ right
    → keeps told ≡ (keeps (moved right) && bound)
end_is keeps moved bound told end read right own bounded value one = ap keeps own ∙ bounded ∙ ap (λ z. keeps z && bound) (value ∙ ap moved one)

turned : (b : Bool) → (b && true) ≡ (true && b)
turned true = refl
turned false = refl

never : (b : Bool) → (b && false) ≡ false
never true = refl
never false = refl

-- the values between both ends
pub between : (low least high most range : Bool) → (least && most) ≡ range → ((low && least) && (high && most)) ≡ (range && (low && high))
between true true high true range is = turned high ∙ ap (λ b. b && high) is
between true true true false range is = ap (λ b. b && true) is
between true true false false range is = ap (λ b. b && false) is
between true false high most range is = ap (λ b. b && high) is
between false least high most range is = sym (never range)

-- those that pass the others too, and where there are no others
pub gather : (range low high rest : Bool) → ((range && (low && high)) && rest) ≡ (range && (low && (high && rest)))
gather true true high rest = refl
gather true false high rest = refl
gather false low high rest = refl

pub without_more : (range low high : Bool) → (range && (low && high)) ≡ (range && (low && (high && true)))
without_more range low true = refl
without_more range low false = refl

-- ---- the numbers of the tests that number groups

module _ (form : KeyForm) (tests picked : List TTest) (bound : ℕ) (are : ArePicked form tests bound picked) where
  -- as many as are picked, up to four
  pub picked_count : length form.numbers ≡ 4 → form.count ≡ length (take 4 picked)
  picked_count size =
      let none : TTest = Compare Key Eq (Literal (pos 0)) in
      let told = ap length (are.are none) in
      let mapped = length-map (take form.count form.numbers) (λ n. get_or tests n none) in
      let taken = length-take form.count form.numbers in
      omega (arith, told, mapped, taken, size, are.few)

  pub picked_weaker : (more : ℕ) → bound ≤ more → ArePicked form tests more picked
  picked_weaker more le = record { few = are.few; below = λ i d inside. let lt = are.below i d inside in omega (arith, lt, le); are = are.are }

  -- the test with a number that is picked
  pub picked_at : (i : ℕ) (d : TTest) → length form.numbers ≡ 4 → i < form.count → get_or tests (get_or form.numbers i 0) d ≡ get_or picked i d
  picked_at i d size inside =
      let long = length-take form.count form.numbers in
      ap (λ n. get_or tests n d) (sym (get_or-take form.count form.numbers i 0 inside))
      ∙ sym (get_or-map (λ n. get_or tests n d) (take form.count form.numbers) i 0 d (omega (arith, long, size, inside, are.few)))
      ∙ ap (λ ts. get_or ts i d) (are.are d)
      ∙ get_or-take 4 picked i d (omega (arith, inside, are.few))

-- the key of the values of all of them
pub four_key : (f : TTest → ℤ) (ts : List TTest) (n : ℕ) → n ≡ length (take 4 ts) → four_of (map f (take n ts)) ≡ four_of (map f ts)
four_key f [] n all = ap (λ n. four_of (map f (take n []))) all
four_key f (a ∷ []) n all = ap (λ n. four_of (map f (take n (a ∷ [])))) all
four_key f (a ∷ b ∷ []) n all = ap (λ n. four_of (map f (take n (a ∷ b ∷ [])))) all
four_key f (a ∷ b ∷ c ∷ []) n all = ap (λ n. four_of (map f (take n (a ∷ b ∷ c ∷ [])))) all
four_key f (a ∷ b ∷ c ∷ d ∷ ts) n all = ap (λ n. four_of (map f (take n (a ∷ b ∷ c ∷ d ∷ ts)))) all

-- one value more
pub value_more : (f : TTest → ℤ) (ts : List TTest) (i : ℕ) (z : ℤ) (d : TTest) → i < length (take 4 ts) → i < 4 → z ≡ f (get_or ts i d)
    → slice_set (four_of (map f (take i ts))) i z ≡ four_of (map f (take (i + 1) ts))
value_more f ts i z d inside few is =
    let short = length-take i ts in
    let four = length-take 4 ts in
    let mapped = length-map (take i ts) f in
    let zs : List ℤ = map f (take i ts) in
    let long : length zs ≡ i = omega (arith, short, four, mapped, inside) in
    ap (λ n. slice_set (four_of zs) n z) (sym long)
    ∙ four_push zs z (omega (arith, long, few))
    ∙ ap (λ v. four_of (zs ++ v ∷ [])) is
    ∙ ap four_of (sym (map-append f (take i ts) (get_or ts i d ∷ [])))
    ∙ ap (λ more. four_of (map f more)) (sym (take_more ts i d (omega (arith, four, inside))))
