-- What a plan of a script keeps at each of its nodes.
use Rattle.std.proofs.Common.{◌≡◌, ℕ, zero, suc, ◌+◌, ◌≤◌, Bool, true, List, [], ◌∷◌, map, length, Option, Some, None, refl, ap, sym, ◌∙◌, arith}
use Rattle.std.specs.Prelude.{nat_le, slice_get}
use Rattle.std.specs.List.{list_all}
use Rattle.std.proofs.lemmas.Bool.{and_parts, false≢true}
use Rattle.std.proofs.lemmas.Bool.Decides.{Decides-eqb, nat_tests}
use Rattle.std.proofs.lemmas.List.{length-map}
use Rattle.std.proofs.lemmas.List.Folds.{list_all-append}
use Rattle.sgl_typed.specs.WellFormed.{Body, action_fits, kind_of, main_body}
use Rattle.sgl_typed.specs.declared.schema.Schema.{Schema}
use Rattle.sgl_typed.specs.declared.script.TAction.{TAction}
use Rattle.sgl_typed.specs.declared.script.TExpr.{TExpr}
use Rattle.sgl_typed.specs.declared.script.TScript.{TScript}
use Rattle.sgl_typed.proofs.Forms.{form_of}
use Rattle.battle_algebra.specs.Fit.{is_plan, some_tree_fits}
use Rattle.battle_algebra.specs.OfScript.{IsOf, act_fits, formed}
use Rattle.battle_algebra.specs.Plans.{tree_in, tree_or}
use Rattle.battle_algebra.specs.Tree.{Computed, Called, Tree, Nothing, Setting, Parted, Acting, Joined, Parts, each, numbered, size, tree_of}
use Rattle.battle_algebra.specs.declared.plan.EffectUse.{EffectUse}
use Rattle.battle_algebra.specs.declared.plan.EffectWay.{EffectWay}
use Rattle.battle_algebra.specs.declared.plan.Node.{Node}
use Rattle.battle_algebra.specs.declared.plan.Node.TheVariants.{Effect}
use Rattle.battle_algebra.proofs.Bools.{both_true}
use Rattle.battle_algebra.proofs.Reading.{numbered-tree_of}

-- ---- the nodes of a tree

-- the effect of a node passes
abbrev act_passes : Parts → Node → Bool
act_passes p (Effect act way) = p.acts act way
act_passes p node = true

each-node : (p : Parts) (t : Tree) (at : ℕ) → each p t ≡ true → list_all (act_passes p) (numbered t at) ≡ true
each-node p Nothing at h = refl
each-node p (Setting slot (Computed e place) below) at h = each-node p below (at + 1) (and_parts _ _ h).1
each-node p (Setting slot (Called call way) below) at h = each-node p below (at + 1) (and_parts _ _ h).1
each-node p (Parted cond place taken other) at h =
    let both = and_parts _ _ (and_parts _ _ h).1 in
    list_all-append (act_passes p) (numbered taken (at + 1)) (numbered other (at + 1 + size taken))
    ∙ both_true _ _ (each-node p taken (at + 1) both.0) (each-node p other (at + 1 + size taken) both.1)
each-node p (Acting act way) at h = both_true _ _ h refl
each-node p (Joined left right) at h =
    let both = and_parts _ _ h in
    list_all-append (act_passes p) (numbered left (at + 1)) (numbered right (at + 1 + size left))
    ∙ both_true _ _ (each-node p left (at + 1) both.0) (each-node p right (at + 1 + size left) both.1)

some_is : {A : Type 0} (x y : A) → Some x ≡ Some y → x ≡ y
some_is x y h = cc

pub one_of_all : {A : Type 0} (q : A → Bool) (xs : List A) (i : ℕ) (x : A) → list_all q xs ≡ true → slice_get xs i ≡ Some x → q x ≡ true
one_of_all q [] i x h is = absurd (cc is)
one_of_all q (y ∷ ys) zero x h is = ap q (sym (some_is y x is)) ∙ (and_parts _ _ h).0
one_of_all q (y ∷ ys) (suc i) x h is = one_of_all q ys i x (and_parts _ _ h).1 is

-- the nodes of a plan are those of its tree
plan_nodes : (nodes : List Node) (slots : ℕ) → is_plan nodes slots ≡ true → nodes ≡ numbered (tree_in nodes) 0
unfolding is_plan
plan_nodes nodes slots h = step (tree_of nodes) refl h
  where
    step : (o : Option Tree) → tree_of nodes ≡ o → some_tree_fits slots o ≡ true → nodes ≡ numbered (tree_in nodes) 0
    step None is h = absurd (false≢true h)
    step (Some t) is h =
        let own : tree_in nodes ≡ t = ap tree_or is in
        numbered-tree_of nodes t is ∙ ap (λ u. numbered u 0) (sym own)

-- ---- the arguments of an effect

params_few : (schema : Schema) (actions : List TAction) (i : ℕ) (action : TAction) → list_all (action_fits schema) actions ≡ true → slice_get actions i ≡ Some action
    → action.params ≤ 16
params_few schema actions i action fits is =
    let small : nat_le action.params 16 ≡ true = (and_parts _ _ (and_parts _ _ (one_of_all (action_fits schema) actions i action fits is)).0).0 in
    grind (arith, nat_tests)

args_few : (schema : Schema) (b : Body) (actions : List TAction) (i clause : ℕ) (found : Option TAction) (args : List TExpr) → list_all (action_fits schema) actions ≡ true
    → slice_get actions i ≡ found → act_fits found clause (map (kind_of b) args) ≡ true → length args ≤ 16
args_few schema b actions i clause None args fits is h = absurd (false≢true h)
args_few schema b actions i clause (Some action) args fits is h =
    let few : action.params ≤ 16 = params_few schema actions i action fits is in
    let same : action.params ≡ length (map (kind_of b) args) = (Decides-eqb action.params (length (map (kind_of b) args))).0 (and_parts _ _ (and_parts _ _ h).1).0 in
    omega (arith, few, same, length-map args (kind_of b))

-- an effect of a plan of a script has at most sixteen arguments
pub few_args : (script : TScript) (nodes : List Node) (slots node : ℕ) (act : EffectUse) (way : EffectWay) → is_plan nodes slots ≡ true → IsOf script (tree_in nodes)
    → slice_get nodes node ≡ Some (Effect act way) → length act.args ≤ 16
few_args script nodes slots node act way plan of is =
    let b = main_body script.schema script.aggs of.kinds in
    let p : Parts = formed script.actions b in
    let all : list_all (act_passes p) nodes ≡ true = ap (list_all (act_passes p)) (plan_nodes nodes slots plan) ∙ each-node p (tree_in nodes) 0 of.fits in
    args_few script.schema b script.actions act.action act.clause (slice_get script.actions act.action) act.args (form_of script).actions refl
    (one_of_all (act_passes p) nodes node (Effect act way) all is)
