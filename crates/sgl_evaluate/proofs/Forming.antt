-- Right sides from the numbers of their forms.
use Rattle.std.proofs.Common.{◌≡◌, ℕ, ℤ, pos, Bool, ◌<◌, ◌≤◌, zero, suc, List, [], ◌∷◌, map, min, length, take, get_or, None, refl, ap, sym, ◌∙◌, arith}
use Rattle.std.specs.Prelude.{◌&&◌}
use Rattle.std.specs.Option.{option_map}
use denote.Hole.Carrier.{hidden}
use Rattle.std.proofs.lemmas.Option.{get_or_from_slice_get, slice_get-map}
use Rattle.std.proofs.lemmas.List.{get_or-map, get_or-take, length-map, length-take, same_lists, take_all}
use Rattle.sgl_values.specs.declared.fault.Val.TheVariants.{N}
use Rattle.sgl_values.specs.declared.operator.BinOp.{BinOp}
use Rattle.sgl_values.specs.declared.place.Place.{Place}
use Rattle.sgl_typed.specs.declared.script.TExpr.{TExpr}
use Rattle.sgl_typed.specs.declared.script.TExpr.TheVariants.{Number as Literal, Binary}
use Rattle.sgl_typed.specs.declared.script.TExpr.TheBlock.{shape-the_row-TExpr-0, hidden-the_row-TExpr-0, shape-the_row-TExpr-1, hidden-the_row-TExpr-1}
use Rattle.sgl_values.specs.declared.operator.CmpOp.TheVariants.{Eq}
use Rattle.sgl_typed.specs.declared.script.Attr.TheVariants.{Key}
use Rattle.sgl_typed.specs.declared.script.TTest.{TTest}
use Rattle.sgl_typed.specs.declared.script.TTest.TheVariants.{Compare}
use Rattle.sgl_typed.specs.Aggregate.{number_in, right_side, simple_value}
use Rattle.sgl_typed.specs.Value.{Context}
use Rattle.sgl_evaluate.specs.Forms.{AreFormsOf, AreSound, form_value, has_form, HaveLiterals, is_acting, is_literal}
use Rattle.sgl_evaluate.specs.Rights.{fault_before, first_fault_of, number_or_zero, right_of}
use Rattle.sgl_evaluate.specs.declared.forms.Form.{Form}
use Rattle.sgl_evaluate.specs.declared.forms.Form.TheVariants.{Number}
use Rattle.sgl_evaluate.specs.declared.forms.RightForms.{RightForms}
use Rattle.sgl_evaluate.specs.declared.rights.Rights.{Rights}

-- each right side is a number
abbrev Told : Context → List TTest → List ℤ → Type 0
Told c tests numbers = (i : ℕ) (d : TTest) (e : ℤ) → i < length tests → simple_value c (right_side (get_or tests i d)) ≡ N (get_or numbers i e)

none_faulty : (c : Context) (tests : List TTest) (numbers : List ℤ) → length tests ≤ length numbers → Told c tests numbers → first_fault_of c tests ≡ None
none_faulty c [] numbers long told = refl
none_faulty c (test ∷ tests) [] long told = absurd (omega (arith, long))
none_faulty c (test ∷ tests) (z ∷ numbers) long told =
    ap (λ v. fault_before (number_in v) (first_fault_of c tests)) (told zero test z (omega arith))
    ∙ none_faulty c tests numbers (omega (arith, long)) (λ i d e inside. told (suc i) d e (omega (arith, inside)))

told_rights : (c : Context) (tests : List TTest) (numbers : List ℤ) → length numbers ≡ 16 → length tests ≤ 16 → Told c tests numbers
    → take (min 16 (length tests)) numbers ≡ map (right_of c) (take 16 tests)
told_rights c tests numbers sixteen few told =
    let count : min 16 (length tests) ≡ length tests = omega (arith, few) in
    let whole : take 16 tests ≡ tests = take_all 16 tests few in
    let long = length-map tests (right_of c) in
    let short = length-take (length tests) numbers in
    ap (λ n. take n numbers) count
    ∙ same_lists (take (length tests) numbers) (map (right_of c) tests) (omega (arith, sixteen, few, long, short))
    (λ i d inside.
    let within : i < length tests = omega (arith, inside, sixteen, few, short) in
    let none : TTest = Compare Key Eq (Literal (pos 0)) in
    get_or-take (length tests) numbers i d within
    ∙ sym (ap (λ v. number_or_zero (number_in v)) (told i none d within))
    ∙ sym (get_or-map (right_of c) tests i none d within))
    ∙ ap (map (right_of c)) (sym whole)

-- the numbers of the forms are the right sides, and none has a fault
pub AreSound-told : (c : Context) (args : List TExpr) (tests : List TTest) (forms : RightForms) (rights : Rights) → AreFormsOf forms args tests → HaveLiterals args c.slots
    → length rights.numbers ≡ 16
    → ((i : ℕ) (d : Form) (e : ℤ) → i < length tests → form_value (get_or forms.forms i d) c.unit ≡ N (get_or rights.numbers i e))
    → AreSound c tests rights
AreSound-told c args tests forms rights are literals sixteen each =
    let few : length tests ≤ 16 = omega (arith, are.all, are.few) in
    let told : Told c tests rights.numbers = λ i d e inside. are.each i (Number (pos 0)) d inside c literals ∙ each i (Number (pos 0)) e inside in
    record {
      rights_are = told_rights c tests rights.numbers sixteen few told;
      whole = none_faulty c tests rights.numbers (omega (arith, sixteen, few)) told;
    }

-- slots that are the values of arguments have the numbers as which they are written
pub HaveLiterals-values : (c : Context) (args : List TExpr) → HaveLiterals args (map (simple_value c) args)
HaveLiterals-values c args k z is =
    get_or_from_slice_get (map (simple_value c) args) k (N z) (N (pos 0)) (slice_get-map (simple_value c) args k ∙ ap (option_map (simple_value c)) is)

form-Binary : (args : List TExpr) (op : BinOp) (l r : TExpr) (place : Place) → has_form args (Binary op l r place) ≡ (is_acting l && is_literal args r)
unfolding shape-the_row-TExpr-0 hidden-the_row-TExpr-0 shape-the_row-TExpr-1 hidden-the_row-TExpr-1 hidden
form-Binary args op l r place = refl

-- an operation has a form where its left side is an attribute of the acting unit and its right side a number
pub operation_has : (args : List TExpr) {e l r l' r' : TExpr} {op : BinOp} {place : Place} {acts tells : Bool} → e ≡ Binary op l r place → l' ≡ l → r' ≡ r
    → is_acting l' ≡ acts → is_literal args r' ≡ tells → has_form args e ≡ (acts && tells)
operation_has args {l = l} {r = r} {op = op} {place = place} is left right acts tells = cc (form-Binary args op l r place)
