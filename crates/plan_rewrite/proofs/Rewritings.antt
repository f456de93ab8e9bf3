-- A plan that is rewritten, computed.
use Rattle.std.proofs.Common.{◌≡◌, ℕ, pos, List, [], ◌∷◌, refl}
use denote.Hole.Carrier.{hidden}
use Rattle.sgl_values.specs.declared.place.Place.{Place}
use Rattle.sgl_values.specs.declared.operator.BinOp.TheVariants.{Cmp, Add}
use Rattle.sgl_values.specs.declared.operator.CmpOp.TheVariants.{Gt}
use Rattle.sgl_typed.specs.declared.script.AggUse.{AggUse}
use Rattle.sgl_typed.specs.declared.script.Attr.TheVariants.{Const}
use Rattle.sgl_typed.specs.declared.script.TAction.{TAction}
use Rattle.sgl_typed.specs.declared.script.TExpr.{TExpr}
use Rattle.sgl_typed.specs.declared.script.TExpr.TheVariants.{Number, Slot, Unit as OfUnit, Agg, Binary}
use Rattle.sgl_typed.specs.declared.script.TExpr.TheBlock.{shape-the_row-TExpr-0, hidden-the_row-TExpr-0, shape-the_row-TExpr-1, hidden-the_row-TExpr-1}
use Rattle.sgl_typed.specs.declared.script.TStmt.{TStmt}
use Rattle.sgl_typed.specs.declared.script.TStmt.TheVariants.{Let, If, Act}
use Rattle.sgl_typed.specs.declared.script.TStmt.TheBlock.{shape-the_row-TStmt-0, hidden-the_row-TStmt-0}
use Rattle.plan_rewrite.specs.Rewrite.{rewritten}
use Rattle.battle_algebra.specs.Same.{same_call}
use Rattle.plan_translate.specs.Translation.{translated}
use Rattle.battle_algebra.specs.Tree.{Tree, Nothing, Extended, Counted, Parted, Acting, size}
use Rattle.battle_algebra.specs.ChosenWays.{Ways}
use Rattle.battle_algebra.specs.declared.plan.EffectWay.TheVariants as effect_way
use Rattle.battle_algebra.specs.declared.plan.Way.TheVariants as way

abbrev at : ℕ → Place
at col = record { line = 1; col = col }

abbrev near : ℕ → AggUse
near col = record { agg = 0; args = Number (pos 5) ∷ []; place = at col }

abbrev far : TExpr
far = Binary (Cmp Gt) (OfUnit (Const 1)) (Number (pos 3)) (at 5)

abbrev some_near : TExpr
some_near = Binary (Cmp Gt) (Binary Add (Slot 0) (Slot 1) (at 6)) (Number (pos 0)) (at 7)

-- let a = Near(u, 5); let b = Near(u, 5); if u.x > 3 { if a + b > 0 { perform Hit(u, 1, 1); } }
abbrev main : List TStmt
main =
    Let 0 (Agg (near 1)) (at 1) ∷ Let 1 (Agg (near 2)) (at 2)
    ∷ If far (at 5) (If some_near (at 7) (Act 0 (Number (pos 1) ∷ Number (pos 1) ∷ []) (at 8) ∷ []) [] ∷ []) [] ∷ []

abbrev hit : TAction
hit = record { name = []; params = 2; ons = record { tests = []; writes = [] } ∷ [] }

abbrev plan : Tree
plan = translated (hit ∷ []) main 2

abbrev scans : Ways
scans = record { of_call = λ call. way.Scan; of_act = λ act. effect_way.Scan }

nine_nodes : size plan ≡ 9
unfolding shape-the_row-TExpr-0 hidden-the_row-TExpr-0 shape-the_row-TExpr-1 hidden-the_row-TExpr-1 shape-the_row-TStmt-0 hidden-the_row-TStmt-0 hidden
nine_nodes = refl

-- one call, below the first split
plan_is : rewritten same_call scans plan
    ≡ Parted far (at 5)
    (Counted 2 (near 1) way.Scan (Extended 0 (Slot 2) (at 1) (Extended 1 (Slot 2) (at 2)
    (Parted some_near (at 7) (Acting (record { action = 0; clause = 0; args = Number (pos 1) ∷ Number (pos 1) ∷ []; place = at 8 }) effect_way.Scan) Nothing))))
    Nothing
unfolding shape-the_row-TExpr-0 hidden-the_row-TExpr-0 shape-the_row-TExpr-1 hidden-the_row-TExpr-1 shape-the_row-TStmt-0 hidden-the_row-TStmt-0 hidden
plan_is = refl
