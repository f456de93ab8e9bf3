-- What the three loops of a rewriting make.
use Rattle.std.proofs.Common.{◌≡◌, ℕ, true, List, refl, ap, sym, ◌∙◌, subst, Option, Some, None}
use Rattle.std.proofs.lemmas.Bool.{false≢true}
use Rattle.sgl_typed.specs.declared.script.TScript.{TScript}
use Rattle.plan_rewrite.specs.Bare.{IsNumbered}
use Rattle.battle_algebra.specs.Fit.{is_plan, tree_fits, some_tree_fits}
use Rattle.battle_algebra.specs.Normal.{IsNormal}
use Rattle.battle_algebra.specs.NormalNodes.{is_normal, is_normal_tree}
use Rattle.battle_algebra.specs.OfScript.{IsOf}
use Rattle.battle_algebra.specs.Plans.{tree_in, tree_or}
use Rattle.plan_rewrite.specs.Rewritten.{rewritten_for, Rewrites}
use Rattle.battle_algebra.specs.Same.{same_call}
use Rattle.plan_rewrite.specs.Tidy.{IsTidied}
use Rattle.plan_rewrite.specs.Trails.{IsMerged}
use Rattle.battle_algebra.specs.Tree.{Tree, numbered, tree_of}
use Rattle.battle_algebra.specs.declared.plan.Node.{Node}
use Rattle.battle_algebra.proofs.Bools.{both_true}
use Rattle.plan_rewrite.proofs.Law.{rewriting}
use Rattle.battle_algebra.proofs.Reading.{numbered-tree_of}
use Rattle.battle_algebra.proofs.Shapes.{tree_of-numbered}

record Shaped (nodes : List Node) (slots : ℕ) : Type 0 where
  are : nodes ≡ numbered (tree_in nodes) 0
  fits : tree_fits slots (tree_in nodes) ≡ true

shaped_of : (nodes : List Node) (slots : ℕ) → is_plan nodes slots ≡ true → Shaped nodes slots
unfolding is_plan
shaped_of nodes slots h = step (tree_of nodes) refl h
  where
    step : (o : Option Tree) → tree_of nodes ≡ o → some_tree_fits slots o ≡ true → Shaped nodes slots
    step None is h = absurd (false≢true h)
    step (Some t) is h =
        let own : tree_in nodes ≡ t = ap tree_or is in
        record { are = numbered-tree_of nodes t is ∙ ap (λ u. numbered u 0) (sym own); fits = ap (tree_fits slots) own ∙ h }

plan_of : (t : Tree) (slots : ℕ) → tree_fits slots t ≡ true → is_plan (numbered t 0) slots ≡ true
unfolding is_plan
plan_of t slots h = ap (some_tree_fits slots) (tree_of-numbered t) ∙ h

normal_of : (t : Tree) → IsNormal same_call t → is_normal (numbered t 0) ≡ true
unfolding is_normal
normal_of t n = ap (λ o. is_normal_tree (tree_or o)) (tree_of-numbered t) ∙ both_true _ _ n.read (both_true _ _ n.alone (both_true _ _ n.lean n.low))

pub record Made (script : TScript) (nodes new : List Node) (slots : ℕ) : Type 0 where
  pub are : new ≡ numbered (rewritten_for script (tree_in nodes)) 0
  pub shaped : is_plan new slots ≡ true
  pub normal : is_normal new ≡ true
  pub rewrites : Rewrites script slots (tree_in nodes) (tree_in new)

pub made : (script : TScript) (nodes merged tidy new : List Node) (slots : ℕ) → is_plan nodes slots ≡ true → IsOf script (tree_in nodes) → IsMerged script nodes merged → IsTidied merged tidy → IsNumbered tidy new → Made script nodes new slots
made script nodes merged tidy new slots shaped of first second third =
    let s : Shaped nodes slots = shaped_of nodes slots shaped in
    let t : Tree = tree_in nodes in
    let u : Tree = rewritten_for script t in
    let are : new ≡ numbered u 0 = third.is u (second.is _ (first.is t s.are)) in
    let law : Rewrites script slots t u = rewriting script slots t s.fits of in
    let own : tree_in new ≡ u = ap tree_in are ∙ ap tree_or (tree_of-numbered u) in
    record {
      are = are;
      shaped = ap (λ ns. is_plan ns slots) are ∙ plan_of u slots law.stands.fits;
      normal = ap is_normal are ∙ normal_of u law.normal.normal;
      rewrites = subst (Rewrites script slots t) (sym own) law;
    }
