-- Equal calls.
use Rattle.std.proofs.Common.{◌≡◌, Bool, true, List, sym, ◌∙◌}
use Rattle.std.proofs.lemmas.Bool.{and_parts}
use Rattle.battle_algebra.specs.Same.{same_call}
use Rattle.battle_algebra.proofs.Sameness.{list_decides, call_of_parts}
use Rattle.battle_algebra.proofs.Bools.{bool_by}
use Rattle.sgl_typed.specs.declared.script.AggUse.{AggUse}
use Rattle.sgl_typed.specs.declared.script.TExpr.{TExpr}

pub same_calls_is : (a b : AggUse) (xs ys : List TExpr) (r : Bool) → a.agg ≡ b.agg → xs ≡ a.args → ys ≡ b.args → (r ≡ true → xs ≡ ys) → (xs ≡ ys → r ≡ true) → r ≡ same_call a b
same_calls_is a b xs ys r one first second there back =
    bool_by r (same_call a b) (λ h. call_of_parts a b one (sym first ∙ there h ∙ second))
    (λ h. back (first ∙ (list_decides a.args b.args).0 (and_parts _ _ h).1 ∙ sym second))
