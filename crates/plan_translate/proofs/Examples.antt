-- Plans of small scripts, computed.
use Rattle.std.proofs.Common.{◌≡◌, ℕ, pos, List, [], ◌∷◌, refl, true}
use denote.Hole.Carrier.{hidden}
use Rattle.sgl_values.specs.declared.place.Place.{Place}
use Rattle.sgl_values.specs.declared.operator.BinOp.TheVariants.{Cmp}
use Rattle.sgl_values.specs.declared.operator.CmpOp.TheVariants.{Eq, Gt}
use Rattle.sgl_typed.specs.declared.script.AggUse.{AggUse}
use Rattle.sgl_typed.specs.declared.script.TAction.{TAction}
use Rattle.sgl_typed.specs.declared.script.TExpr.{TExpr}
use Rattle.sgl_typed.specs.declared.script.TExpr.TheVariants.{Number, Slot, Agg, Binary}
use Rattle.sgl_typed.specs.declared.script.TExpr.TheBlock.{shape-the_row-TExpr-0, hidden-the_row-TExpr-0, shape-the_row-TExpr-1, hidden-the_row-TExpr-1}
use Rattle.sgl_typed.specs.declared.script.TStmt.{TStmt}
use Rattle.sgl_typed.specs.declared.script.TStmt.TheVariants.{Let, If, Act}
use Rattle.sgl_typed.specs.declared.script.TStmt.TheBlock.{shape-the_row-TStmt-0, hidden-the_row-TStmt-0}
use Rattle.battle_algebra.specs.Fit.{is_plan}
use Rattle.plan_translate.specs.Translation.{translated}
use Rattle.battle_algebra.specs.Tree.{numbered}
use Rattle.battle_algebra.specs.declared.plan.EffectWay.TheVariants as effect_way
use Rattle.battle_algebra.specs.declared.plan.Node.{Node}
use Rattle.battle_algebra.specs.declared.plan.Node.TheVariants as node
use Rattle.battle_algebra.specs.declared.plan.Way.TheVariants as way

abbrev at : ℕ → Place
at col = record { line = 1; col = col }

abbrev act : ℕ → List TExpr → ℕ → TStmt
act action args col = Act action args (at col)

abbrev call : ℕ → List TExpr → ℕ → AggUse
call agg args col = record { agg = agg; args = args; place = at col }

abbrev action : ℕ → TAction
action params = record { name = []; params = params; ons = record { tests = []; writes = [] } ∷ [] }

-- let foes = Foes(u); if foes = 0 { perform Wait(u); } else { if foes > Friends(u) { perform Hit(u, Weak(u)); } }
abbrev main : List TStmt
main =
    Let 0 (Agg (call 0 [] 1)) (at 1)
    ∷ If (Binary (Cmp Eq) (Slot 0) (Number (pos 0)) (at 2)) (at 2)
    (act 0 [] 3 ∷ [])
    (If (Binary (Cmp Gt) (Slot 0) (Agg (call 1 [] 4)) (at 5)) (at 5) (act 1 (Agg (call 2 [] 6) ∷ []) 7 ∷ []) [] ∷ [])
    ∷ []

abbrev nodes : List Node
nodes =
    node.Agg 1 (call 0 [] 1) way.Scan 1
    ∷ node.Extend 0 (Slot 1) (at 1) 2
    ∷ node.Split (Binary (Cmp Eq) (Slot 0) (Number (pos 0)) (at 2)) (at 2) 3 4
    ∷ node.Effect (record { action = 0; clause = 0; args = []; place = at 3 }) effect_way.Scan
    ∷ node.Agg 2 (call 1 [] 4) way.Scan 5
    ∷ node.Split (Binary (Cmp Gt) (Slot 0) (Slot 2) (at 5)) (at 5) 6 8
    ∷ node.Agg 3 (call 2 [] 6) way.Scan 7
    ∷ node.Effect (record { action = 1; clause = 0; args = Slot 3 ∷ []; place = at 7 }) effect_way.Scan
    ∷ node.Empty
    ∷ []

main_is : numbered (translated (action 0 ∷ action 1 ∷ []) main 1) 0 ≡ nodes
unfolding shape-the_row-TExpr-0 hidden-the_row-TExpr-0 shape-the_row-TExpr-1 hidden-the_row-TExpr-1 shape-the_row-TStmt-0 hidden-the_row-TStmt-0 hidden
main_is = refl

nodes_are_plan : is_plan nodes 4 ≡ true
unfolding is_plan shape-the_row-TExpr-0 hidden-the_row-TExpr-0 shape-the_row-TExpr-1 hidden-the_row-TExpr-1 shape-the_row-TStmt-0 hidden-the_row-TStmt-0 hidden
nodes_are_plan = refl
