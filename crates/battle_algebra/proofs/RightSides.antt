-- Right sides that a row alone decides, and amounts that read the target, by the variants of expressions.
use Rattle.std.specs.Prelude.{◌&&◌, ◌||◌}
use Rattle.std.proofs.Common.{◌≡◌, ℕ, Bool, false, ap, sym, ◌∙◌}
use Rattle.sgl_values.specs.declared.place.Place.{Place}
use Rattle.sgl_values.specs.declared.operator.BinOp.{BinOp}
use Rattle.sgl_typed.specs.declared.script.AggUse.{AggUse}
use Rattle.sgl_typed.specs.declared.script.TExpr.{TExpr}
use Rattle.sgl_typed.specs.declared.script.TExpr.TheVariants.{Agg, Neg, Not, Binary}
use Rattle.battle_algebra.specs.Ways.{fixed_with, reads_target}
use Rattle.sgl_typed.proofs.Built.{agg_of, neg_is, not_is, binary_is}

pub fixed-Neg : (e : TExpr) (p : ℕ → Bool) → fixed_with (Neg e) p ≡ fixed_with e p
fixed-Neg e p = ap (λ x. fixed_with x p) (neg_is tt e)

pub fixed-Not : (e : TExpr) (p : ℕ → Bool) → fixed_with (Not e) p ≡ false
fixed-Not e p = ap (λ x. fixed_with x p) (not_is tt e)

pub fixed-Agg : (call : AggUse) (p : ℕ → Bool) → fixed_with (Agg call) p ≡ false
fixed-Agg call p = ap (λ x. fixed_with x p) (agg_of call)

pub fixed-Binary : (op : BinOp) (l r : TExpr) (place : Place) (p : ℕ → Bool) → fixed_with (Binary op l r place) p ≡ (fixed_with l p && fixed_with r p)
fixed-Binary op l r place p = ap (λ x. fixed_with x p) (binary_is op tt tt l r place)

pub target-Neg : (e : TExpr) → reads_target (Neg e) ≡ reads_target e
target-Neg e = ap reads_target (neg_is tt e)

pub target-Not : (e : TExpr) → reads_target (Not e) ≡ reads_target e
target-Not e = ap reads_target (not_is tt e)

pub target-Agg : (call : AggUse) → reads_target (Agg call) ≡ false
target-Agg call = ap reads_target (agg_of call)

pub target-Binary : (op : BinOp) (l r : TExpr) (place : Place) → reads_target (Binary op l r place) ≡ (reads_target l || reads_target r)
target-Binary op l r place = ap reads_target (binary_is op tt tt l r place)

pub ruleset fixed_equations = (fixed-Neg, fixed-Not, fixed-Agg, fixed-Binary)

pub ruleset target_equations = (target-Neg, target-Not, target-Agg, target-Binary)

-- ---- steps of code

pub fixed_binary : (e l r l' r' : TExpr) (op : BinOp) (place : Place) (p : ℕ → Bool) (b c : Bool) → e ≡ Binary op l r place → l' ≡ l → r' ≡ r → b ≡ fixed_with l' p → c ≡ fixed_with r' p → (b && c) ≡ fixed_with e p
fixed_binary e l r l' r' op place p b c is same same' first second =
    (λ i. (first ∙ ap (λ x. fixed_with x p) same) i && (second ∙ ap (λ x. fixed_with x p) same') i) ∙ sym (fixed-Binary op l r place p) ∙ ap (λ x. fixed_with x p) (sym is)

pub target_binary : (e l r l' r' : TExpr) (op : BinOp) (place : Place) (b c : Bool) → e ≡ Binary op l r place → l' ≡ l → r' ≡ r → b ≡ reads_target l' → c ≡ reads_target r' → (b || c) ≡ reads_target e
target_binary e l r l' r' op place b c is same same' first second =
    (λ i. (first ∙ ap reads_target same) i || (second ∙ ap reads_target same') i) ∙ sym (target-Binary op l r place) ∙ ap reads_target (sym is)
