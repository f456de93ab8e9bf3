-- Calls taken out of expressions, by the variants of these.
use Rattle.std.proofs.Common.{◌≡◌, ℕ, ◌+◌, List, [], ◌∷◌, ◌++◌, refl, ap, ◌∙◌, sym}
use denote.Hole.Carrier.{hidden}
use Rattle.sgl_values.specs.declared.place.Place.{Place}
use Rattle.sgl_values.specs.declared.operator.BinOp.{BinOp}
use Rattle.sgl_typed.specs.declared.script.AggUse.{AggUse}
use Rattle.sgl_typed.specs.declared.script.TExpr.{TExpr}
use Rattle.sgl_typed.specs.declared.script.TExpr.TheVariants.{Slot, Agg, Neg, Not, Binary}
use Rattle.sgl_typed.specs.declared.script.TExpr.TheBlock.{shape-the_row-TExpr-0, hidden-the_row-TExpr-0}
use Rattle.plan_translate.specs.Calls.{calls_in, calls_in_all, lifted, lifted_all, lifted_calls, lifted_calls_all}
use Rattle.plan_translate.specs.Sides.{over_sides}
use Rattle.sgl_typed.specs.declared.script.TAction.{TAction}
use Rattle.sgl_typed.specs.declared.script.TStmt.{TStmt}
use Rattle.sgl_typed.specs.declared.script.TStmt.TheVariants.{If}
use Rattle.sgl_typed.specs.declared.script.TStmt.TheBlock.{shape-the_row-TStmt-0, hidden-the_row-TStmt-0}
use Rattle.battle_algebra.specs.Tree.{Tree, Parted, Joined}
use Rattle.sgl_typed.proofs.Built.{agg_of, neg_is, not_is, binary_is}
use Rattle.plan_translate.specs.Translation.{calls_in_list, lifted_list, lifted_calls_list, with_calls, followed, followed_by, calls_of, calls_of_block, calls_of_all, statement_tree, block_tree, translated}

-- ---- lists behind the variant of a call

pub all-calls_in : (es : List TExpr) → calls_in_all (hidden-the_row-TExpr-0 es) ≡ calls_in_list es
unfolding shape-the_row-TExpr-0 hidden-the_row-TExpr-0 hidden
all-calls_in [] = refl
all-calls_in (e ∷ es) = ap (λ n. calls_in e + n) (all-calls_in es)

pub all-lifted : (es : List TExpr) (next : ℕ) → lifted_all (hidden-the_row-TExpr-0 es) next ≡ lifted_list es next
unfolding shape-the_row-TExpr-0 hidden-the_row-TExpr-0 hidden
all-lifted [] next = refl
all-lifted (e ∷ es) next = ap (λ more. lifted e next ∷ more) (all-lifted es (next + calls_in e))

pub all-lifted_calls : (es : List TExpr) (next : ℕ) → lifted_calls_all (hidden-the_row-TExpr-0 es) next ≡ lifted_calls_list es next
unfolding shape-the_row-TExpr-0 hidden-the_row-TExpr-0 hidden
all-lifted_calls [] next = refl
all-lifted_calls (e ∷ es) next = ap (λ more. lifted_calls e next ++ more) (all-lifted_calls es (next + calls_in e))

-- ---- variants

pub calls_in-Agg : (call : AggUse) → calls_in (Agg call) ≡ calls_in_list call.args + 1
calls_in-Agg call = ap calls_in (agg_of call) ∙ ap (λ n. n + 1) (all-calls_in call.args)

pub calls_in-Neg : (e : TExpr) → calls_in (Neg e) ≡ calls_in e
calls_in-Neg e = ap calls_in (neg_is tt e)

pub calls_in-Not : (e : TExpr) → calls_in (Not e) ≡ calls_in e
calls_in-Not e = ap calls_in (not_is tt e)

pub calls_in-Binary : (op : BinOp) (l r : TExpr) (place : Place) → calls_in (Binary op l r place) ≡ calls_in l + calls_in r
calls_in-Binary op l r place = ap calls_in (binary_is op tt tt l r place)

pub lifted-Agg : (call : AggUse) (next : ℕ) → lifted (Agg call) next ≡ Slot (next + calls_in_list call.args)
lifted-Agg call next = ap (λ e. lifted e next) (agg_of call) ∙ ap (λ n. Slot (next + n)) (all-calls_in call.args)

pub lifted-Neg : (e : TExpr) (next : ℕ) → lifted (Neg e) next ≡ Neg (lifted e next)
lifted-Neg e next = ap (λ e. lifted e next) (neg_is tt e)

pub lifted-Not : (e : TExpr) (next : ℕ) → lifted (Not e) next ≡ Not (lifted e next)
lifted-Not e next = ap (λ e. lifted e next) (not_is tt e)

pub lifted-Binary : (op : BinOp) (l r : TExpr) (place : Place) (next : ℕ) → lifted (Binary op l r place) next ≡ Binary op (lifted l next) (lifted r (next + calls_in l)) place
lifted-Binary op l r place next = ap (λ e. lifted e next) (binary_is op tt tt l r place)

pub lifted_calls-Agg : (call : AggUse) (next : ℕ) → lifted_calls (Agg call) next ≡ lifted_calls_list call.args next ++ record { slot = next + calls_in_list call.args; call = record { agg = call.agg; args = lifted_list call.args next; place = call.place } } ∷ []
lifted_calls-Agg call next =
    ap (λ e. lifted_calls e next) (agg_of call)
    ∙ (λ i. all-lifted_calls call.args next i ++ record { slot = next + all-calls_in call.args i; call = record { agg = call.agg; args = all-lifted call.args next i; place = call.place } } ∷ [])

pub lifted_calls-Neg : (e : TExpr) (next : ℕ) → lifted_calls (Neg e) next ≡ lifted_calls e next
lifted_calls-Neg e next = ap (λ e. lifted_calls e next) (neg_is tt e)

pub lifted_calls-Not : (e : TExpr) (next : ℕ) → lifted_calls (Not e) next ≡ lifted_calls e next
lifted_calls-Not e next = ap (λ e. lifted_calls e next) (not_is tt e)

pub lifted_calls-Binary : (op : BinOp) (l r : TExpr) (place : Place) (next : ℕ) → lifted_calls (Binary op l r place) next ≡ lifted_calls l next ++ lifted_calls r (next + calls_in l)
lifted_calls-Binary op l r place next = ap (λ e. lifted_calls e next) (binary_is op tt tt l r place)

-- ---- blocks, as lists of statements

pub block-calls : (block : List TStmt) → calls_of_block (hidden-the_row-TStmt-0 block) ≡ calls_of_all block
unfolding shape-the_row-TStmt-0 hidden-the_row-TStmt-0 hidden
block-calls [] = refl
block-calls (statement ∷ rest) = ap (λ n. calls_of statement + n) (block-calls rest)

followed-hidden : (block : List TStmt) → followed (hidden-the_row-TStmt-0 block) ≡ followed_by block
unfolding shape-the_row-TStmt-0 hidden-the_row-TStmt-0 hidden
followed-hidden [] = λ i tree rest. tree
followed-hidden (statement ∷ more) = λ i tree rest. Joined tree rest

pub block-tree : (actions : List TAction) (block : List TStmt) (next : ℕ) → block_tree actions (hidden-the_row-TStmt-0 block) next ≡ translated actions block next
unfolding shape-the_row-TStmt-0 hidden-the_row-TStmt-0 hidden
block-tree actions [] next = refl
block-tree actions (statement ∷ rest) next =
    λ i. statement_tree actions statement next (followed-hidden rest i) (block-tree actions rest (next + calls_of statement) i)

pub calls_of-If : (cond : TExpr) (place : Place) (taken other : List TStmt) → calls_of (If cond place taken other) ≡ calls_in cond + (calls_of_all taken + calls_of_all other)
unfolding shape-the_row-TStmt-0 hidden-the_row-TStmt-0 hidden
calls_of-If cond place taken other = λ i. calls_in cond + (block-calls taken i + block-calls other i)

pub tree-If : (actions : List TAction) (cond : TExpr) (place : Place) (taken other : List TStmt) (next : ℕ) (behind : Tree → Tree → Tree) (rest : Tree)
    → statement_tree actions (If cond place taken other) next behind rest
    ≡ behind (with_calls (lifted_calls cond next) (Parted (lifted cond next) place (translated actions taken (next + calls_in cond)) (translated actions other (next + calls_in cond + calls_of_all taken)))) rest
unfolding shape-the_row-TStmt-0 hidden-the_row-TStmt-0 hidden
tree-If actions cond place taken other next behind rest =
    λ i. behind (with_calls (lifted_calls cond next) (Parted (lifted cond next) place (block-tree actions taken (next + calls_in cond) i) (block-tree actions other (next + calls_in cond + block-calls taken i) i))) rest

pub ruleset lifting_equations = (calls_in-Agg, calls_in-Neg, calls_in-Not, calls_in-Binary, lifted-Agg, lifted-Neg, lifted-Not, lifted-Binary, lifted_calls-Agg, lifted_calls-Neg, lifted_calls-Not, lifted_calls-Binary)

-- ---- other sides

pub sides-Agg : (call : AggUse) (l r : TExpr) → over_sides (Agg call) l r ≡ Agg call
sides-Agg call l r = ap (λ e. over_sides e l r) (agg_of call) ∙ sym (agg_of call)

pub sides-Neg : (e l r : TExpr) → over_sides (Neg e) l r ≡ Neg e
sides-Neg e l r = ap (λ e. over_sides e l r) (neg_is tt e) ∙ sym (neg_is tt e)

pub sides-Not : (e l r : TExpr) → over_sides (Not e) l r ≡ Not e
sides-Not e l r = ap (λ e. over_sides e l r) (not_is tt e) ∙ sym (not_is tt e)

pub sides-Binary : (op : BinOp) (l r l' r' : TExpr) (place : Place) → over_sides (Binary op l r place) l' r' ≡ Binary op l' r' place
sides-Binary op l r l' r' place = ap (λ e. over_sides e l' r') (binary_is op tt tt l r place)

pub ruleset sides_equations = (sides-Agg, sides-Neg, sides-Not, sides-Binary)
