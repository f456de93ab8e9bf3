-- The box that range tests ask for, and tests in a form that is told once for many acting units.
use Rattle.std.specs.Prelude.{◌≡◌, ℕ, ℤ, pos, int_le, ◌+ℤ◌, ◌-ℤ◌, ◌<◌, ◌≤◌, ◌&&◌, Bool, true, false, List, length, map, take, slice_index_or, Option, None, Some, if◌then◌else◌}
use Rattle.std.specs.List.{list_all}
use Rattle.std.specs.Option.{ForSome}
use Rattle.sgl_values.specs.declared.fault.Val.{Val}
use Rattle.sgl_values.specs.declared.operator.CmpOp.{CmpOp}
use Rattle.sgl_values.specs.declared.operator.CmpOp.TheVariants.{Lt, Le, Gt, Ge}
use Rattle.sgl_typed.specs.declared.script.Attr.{Attr}
use Rattle.sgl_typed.specs.declared.script.TExpr.{TExpr}
use Rattle.sgl_typed.specs.declared.script.TTest.{TTest}
use Rattle.sgl_typed.specs.declared.script.TTest.TheVariants.{Compare, Within}
use Rattle.sgl_typed.specs.Value.{compares}
use Rattle.sgl_evaluate.specs.Forms.{AreFormsOf, HaveLiterals}
use Rattle.sgl_evaluate.specs.Frame.{context_of, IsFrame}
use Rattle.sgl_evaluate.specs.Rights.{AreRights}
use Rattle.battle_algebra.specs.Ways.{is_along, is_range, x_of, y_of}
use Rattle.test_boxes.specs.declared.asked.AskedBox.{AskedBox}
use Rattle.test_boxes.specs.declared.asked.TestForms.{TestForms}
use Rattle.test_boxes.specs.declared.asking.Asking.{Asking}
use Rattle.test_boxes.specs.declared.key_form.KeyForm.{KeyForm}
use Rattle.test_boxes.specs.declared.reading.Reading.{Reading}
use Rattle.test_boxes.specs.declared.reading.Reading.TheVariants.{Away, Alike}
use Rattle.test_boxes.specs.declared.span_form.Bound.{Bound}
use Rattle.test_boxes.specs.declared.span_form.End.{End}
use Rattle.test_boxes.specs.declared.span_form.SpanForm.{SpanForm}
use Rattle.test_boxes.specs.Ranges.{IsSpan, passes_along}
use Rattle.test_boxes.specs.Readings.{grouping}
use Rattle.sgl_values.specs.declared.limit.TheConstants.{TESTS_MAX}

-- the spans of the box hold the values that pass the range tests of either axis
pub record IsAsked (asked : AskedBox) (right : TTest → ℤ) (tests : List TTest) : Type 0 where
  pub across : IsSpan asked.across (x_of tests) right tests
  pub down : IsSpan asked.down (y_of tests) right tests

-- the comparison of a test, where it is a range test of the attribute
abbrev pub op_along : Option Attr → TTest → Option CmpOp
op_along axis (Compare attr op right) = if is_along axis (Compare attr op right) then Some op else None
op_along axis (Within x y radius) = None

-- a value passes the comparison that bounds it, with the right side of its test
abbrev pub passes_bound : (TTest → ℤ) → List TTest → TTest → ℤ → Bound → Bool
passes_bound right tests d v bound = if is_range bound.op then compares bound.op v (right (slice_index_or tests bound.number d)) else true

-- a comparison asks for larger values, or for smaller ones
abbrev pub is_lower : CmpOp → Bool
is_lower Gt = true
is_lower Ge = true
is_lower op = false

abbrev pub is_upper : CmpOp → Bool
is_upper Lt = true
is_upper Le = true
is_upper op = false

-- how far from the right side the values begin that pass a strict comparison, or another one
abbrev pub away_of : CmpOp → ℕ
away_of Lt = 1
away_of Gt = 1
away_of op = 0

-- a value is so far above the right side that an end names, if there is one, or so far below
abbrev pub passes_low : (TTest → ℤ) → List TTest → TTest → ℤ → Option End → Bool
passes_low right tests d v None = true
passes_low right tests d v (Some end) = int_le (right (slice_index_or tests end.number d) +ℤ pos end.away) v

abbrev pub passes_high : (TTest → ℤ) → List TTest → TTest → ℤ → Option End → Bool
passes_high right tests d v None = true
passes_high right tests d v (Some end) = int_le v (right (slice_index_or tests end.number d) -ℤ pos end.away)

-- a value passes the comparisons that are no ends
abbrev pub passes_others : (TTest → ℤ) → List TTest → TTest → ℤ → SpanForm → Bool
passes_others right tests d v form = list_all (passes_bound right tests d v) (take form.count form.others)

-- a value lies between the ends, and passes the others
abbrev pub passes_form : (TTest → ℤ) → List TTest → TTest → ℤ → SpanForm → Bool
passes_form right tests d v form =
    passes_low right tests d v form.low && (passes_high right tests d v form.high && passes_others right tests d v form)

-- the numbers of its tests are below a bound
pub record AreBelow (form : SpanForm) (most : ℕ) : Type 0 where
  pub low : ForSome form.low (λ end. end.number < most)
  pub high : ForSome form.high (λ end. end.number < most)
  pub others : (i : ℕ) (d : Bound) → i < form.count → (slice_index_or form.others i d).number < most

-- these are the range tests of an attribute, among at most sixteen: whatever the right sides are, a value passes both alike
pub record IsSpanForm (form : SpanForm) (axis : Option Attr) (tests : List TTest) : Type 0 where
  pub few : length tests ≤ TESTS_MAX
  pub fits : form.count ≤ TESTS_MAX
  pub below : AreBelow form (length tests)
  pub same : (right : TTest → ℤ) (d : TTest) (v : ℤ) → passes_form right tests d v form ≡ passes_along axis right tests v

-- these are the numbers, below a bound, of the first four of some of the tests
pub record ArePicked (form : KeyForm) (tests : List TTest) (bound : ℕ) (picked : List TTest) : Type 0 where
  pub few : form.count ≤ 4
  pub below : (i d : ℕ) → i < form.count → slice_index_or form.numbers i d < bound
  pub are : (d : TTest) → map (λ number. slice_index_or tests number d) (take form.count form.numbers) ≡ take 4 picked

-- these are the numbers of the tests whose values number groups, up to the fourth
abbrev pub IsKeyForm : KeyForm → Reading → List TTest → Type 0
IsKeyForm form how tests = ArePicked form tests (length tests) (grouping how tests)

-- they are the forms of the right sides, of the spans of the box, and of the keys in both readings that number groups
pub record AreTestForms (forms : TestForms) (args : List TExpr) (tests : List TTest) : Type 0 where
  pub rights : AreFormsOf forms.rights args tests
  pub across : IsSpanForm forms.across (x_of tests) tests
  pub down : IsSpanForm forms.down (y_of tests) tests
  pub plain : IsKeyForm forms.plain Away tests
  pub alike : IsKeyForm forms.alike Alike tests

-- they are the forms for some arguments, and the slots are those of the arguments that are written as numbers
pub record FitTests (forms : TestForms) (slots : List Val) (tests : List TTest) : Type 0 where
  pub args : List TExpr
  pub are : AreTestForms forms args tests
  pub literals : HaveLiterals args slots

-- who asks by these tests: the numbers are their right sides in the frame, and the forms, where they are told, are theirs
pub record IsAsking (asking : Asking) (tests : List TTest) : Type 0 where
  pub frame : IsFrame asking.frame.now
  pub rights : AreRights (context_of asking.frame.now) tests asking.rights.now
  pub forms : ForSome asking.forms (λ forms. FitTests forms.now asking.frame.now.slots.now tests)
