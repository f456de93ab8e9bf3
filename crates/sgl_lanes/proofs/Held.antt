-- What lanes hold of an operation.
use Rattle.std.proofs.Common.{◌≡◌, ◌≢◌, ℤ, pos, Bool, true, false, if◌then◌else◌, refl, sym, ap, ◌∙◌, subst}
use Rattle.std.specs.Ordering.{int_eq}
use Rattle.sgl_values.specs.declared.operator.BinOp.{BinOp}
use Rattle.sgl_values.specs.declared.place.Place.{Place}
use Rattle.sgl_values.specs.declared.fault.Val.{Val}
use Rattle.sgl_values.specs.declared.fault.Val.TheVariants.{B}
use Rattle.sgl_typed.specs.declared.script.TExpr.{TExpr}
use Rattle.sgl_typed.specs.declared.script.TExpr.TheVariants.{Binary}
use Rattle.sgl_typed.specs.Value.{Calls, Context, operated, value_with}
use Rattle.sgl_typed.proofs.Equations.{value-Binary}
use Rattle.sgl_lanes.specs.Lanes.{bit, held, Holds}
use Rattle.sgl_lanes.specs.declared.kind.Lanes.{Lanes}
use Rattle.sgl_lanes.specs.declared.kind.Lanes.TheVariants.{Numbers, Truths, Unknown}

operation-value : (calls : Calls) (c : Context) {e l r l' r' : TExpr} {op : BinOp} {place : Place}
    → e ≡ Binary op l r place → l' ≡ l → r' ≡ r → operated op place (value_with calls c l') (value_with calls c r') ≡ value_with calls c e
operation-value calls c {l = l} {r = r} {op = op} {place = place} is left right = cc (value-Binary calls c op l r place)

-- a lane that holds an operation on the values of two sides holds that of the whole
pub operation-held : (kind : Lanes) (z : ℤ) (calls : Calls) (c : Context) {e l r l' r' : TExpr} {op : BinOp} {place : Place}
    → e ≡ Binary op l r place → l' ≡ l → r' ≡ r → Holds kind z (operated op place (value_with calls c l') (value_with calls c r')) → Holds kind z (value_with calls c e)
operation-held kind z calls c is left right held =
    let P : Val → Type 0 = λ v. Holds kind z v in subst P (operation-value calls c is left right) held

truth_of_bit : (truth : Bool) → int_eq (bit truth) (pos 1) ≡ truth
truth_of_bit true = refl
truth_of_bit false = refl

-- where it is known what a lane holds, that is the value
pub held-is : (kind : Lanes) (z : ℤ) (v : Val) → Holds kind z v → kind ≢ Unknown → held kind z ≡ v
held-is Numbers z v holds known = sym holds
held-is Truths z v holds known = ap (λ n. B (int_eq n (pos 1))) holds.stands ∙ ap B (truth_of_bit holds.truth) ∙ sym holds.value
held-is Unknown z v holds known = absurd (known refl)

-- what lanes hold where an operation on them is exact
pub kind-held : (exact : Bool) (own kind : Lanes) (z : ℤ) (v : Val) → kind ≡ (if exact then own else Unknown) → (exact ≡ true → Holds own z v) → Holds kind z v
kind-held true own kind z v is holds = subst (λ kind. Holds kind z v) (sym is) (holds refl)
kind-held false own kind z v is holds = subst (λ kind. Holds kind z v) (sym is) tt
