-- The lines of a small plan, computed from the definitions.
use Rattle.std.proofs.Common.{◌≡◌, ℕ, List, [], ◌∷◌, ◌++◌, refl}
use Rattle.std.specs.Prelude.{codes, map}
use Rattle.std.specs.Fmt.{digits}
use Rattle.sgl_values.specs.declared.place.Place.{Place}
use Rattle.sgl_typed.specs.declared.script.AggUse.{AggUse}
use Rattle.sgl_typed.specs.declared.script.TExpr.{TExpr}
use Rattle.sgl_typed.specs.declared.script.TScript.{TScript}
use Rattle.battle_algebra.specs.declared.plan.EffectWay.TheVariants as effect_way
use Rattle.battle_algebra.specs.declared.plan.Node.{Node}
use Rattle.battle_algebra.specs.declared.plan.Node.TheVariants.{Empty, Extend, Agg, Split, Effect, Both}
use Rattle.battle_algebra.specs.declared.plan.Way.TheVariants as way
use Rattle.battle_report.specs.PlanLines.{plan_text}

-- these lines, each ended by a line feed
abbrev lines : List (List ℕ) → List ℕ
lines [] = []
lines (line ∷ more) = line ++ (10 ∷ lines more)

abbrev at : ℕ → Place
at col = record { line = 9; col = col }

abbrev call : ℕ → ℕ → AggUse
call agg col = record { agg = agg; args = []; place = at col }

-- an action is performed where a count passes
abbrev nodes : TExpr → List Node
nodes cond =
    Agg 0 (call 0 6) way.Range 1 ∷ Split cond (at 17) 2 4 ∷ Agg 1 (call 1 38) way.Sweep 3
    ∷ Effect (record { action = 0; clause = 0; args = []; place = at 23 }) effect_way.Key ∷ Empty ∷ []

five_lines : (script : TScript) (cond : TExpr)
    → map (λ a. a.name) script.aggs ≡ codes "Near" ∷ codes "Weakest" ∷ [] → map (λ a. a.name) script.actions ≡ codes "Hit" ∷ []
    → plan_text script (nodes cond)
    ≡ lines (codes "# plan" ∷ codes "0 agg s0 Near range at 9:6 then 1" ∷ codes "1 split at 9:17 yes 2 no 4"
    ∷ codes "2 agg s1 Weakest sweep at 9:38 then 3" ∷ codes "3 effect Hit.0 key at 9:23" ∷ codes "4 empty" ∷ [])
unfolding digits
five_lines script cond aggs actions = rw aggs (rw actions refl)

-- names that a script lacks are empty
no_names : (script : TScript) (value : TExpr) → script.aggs ≡ [] → script.actions ≡ []
    → plan_text script (Both 1 2 ∷ Effect (record { action = 0; clause = 12; args = []; place = at 4 }) effect_way.Area
    ∷ Extend 10 value (at 5) 3 ∷ Agg 0 (call 0 6) way.Circle 4 ∷ Empty ∷ [])
    ≡ lines (codes "# plan" ∷ codes "0 both 1 2" ∷ codes "1 effect .12 area at 9:4" ∷ codes "2 extend s10 at 9:5 then 3"
    ∷ codes "3 agg s0  circle at 9:6 then 4" ∷ codes "4 empty" ∷ [])
unfolding digits
no_names script value aggs actions = rw aggs (rw actions refl)
