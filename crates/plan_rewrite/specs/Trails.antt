-- What holds on the way to a node.
use Rattle.std.specs.Prelude.{ℕ, ◌≡◌, ◌≤◌, true, List, [], ◌∷◌, ◌++◌, reverse, take, length, Option, Some, None, Bool}
use Rattle.sgl_typed.specs.declared.script.AggUse.{AggUse}
use Rattle.sgl_typed.specs.declared.script.TScript.{TScript}
use Rattle.plan_rewrite.specs.Bare.{bare, top_if, rest_if}
use Rattle.plan_rewrite.specs.Rewrite.{Renaming, Known, moved, moved_call, moved_act, slot_of, unified}
use Rattle.battle_algebra.specs.Same.{same_call}
use Rattle.battle_algebra.specs.Tree.{Tree, numbered}
use Rattle.plan_rewrite.specs.declared.trail.Trail.{Trail}
use Rattle.battle_algebra.specs.declared.plan.Node.{Node}
use Rattle.battle_algebra.specs.declared.plan.Node.TheVariants.{Empty, Extend, Agg, Split, Effect, Both}
use Rattle.battle_algebra.specs.ChosenWays.{Ways, ways_of}

pub record Here : Type 0 where
  pub renamings : List Renaming
  pub above : List Known
  pub firsts : List ℕ
  pub seconds : List ℕ

abbrev pub here_of : Trail → Here
here_of t = record { renamings = t.renamings.items; above = t.above.items; firsts = t.firsts; seconds = t.seconds }

abbrev pub no_trail : Here
no_trail = record { renamings = []; above = []; firsts = []; seconds = [] }

abbrev pub renaming_more : Renaming → Here → Here
renaming_more r h = record { renamings = h.renamings ++ r ∷ []; above = h.above; firsts = h.firsts; seconds = h.seconds }

abbrev pub known_more : Known → Here → Here
known_more k h = record { renamings = h.renamings; above = h.above ++ k ∷ []; firsts = h.firsts; seconds = h.seconds }

abbrev pub forked : Here → Here
forked h = record { renamings = h.renamings; above = h.above; firsts = length h.renamings ∷ h.firsts; seconds = length h.above ∷ h.seconds }

abbrev pub closed : Here → Here
closed h = record {
  renamings = take (top_if true h.firsts) h.renamings;
  above = take (top_if true h.seconds) h.above;
  firsts = rest_if true h.firsts;
  seconds = rest_if true h.seconds;
}

-- what is saved is there
pub record Roomy (h : Here) : Type 0 where
  pub first : top_if true h.firsts ≤ length h.renamings
  pub second : top_if true h.seconds ≤ length h.above

-- the nodes of trees, of which the first begins here and each other one where a second child begins
abbrev pub all_unified : (AggUse → AggUse → Bool) → Ways → List Tree → Here → List Node
all_unified same ways [] h = []
all_unified same ways (t ∷ ts) h = bare (unified same ways t (reverse h.renamings) (reverse h.above)) ++ all_unified same ways ts (closed h)

-- what is done at a call, with the slot of an equal one
abbrev pub CallStepped : Ways → Option ℕ → ℕ → AggUse → List Node → Here → List Node → Here → Type 0
CallStepped ways (Some other) slot call out h out' h' = (out' ≡ out) × ((h' ≡ renaming_more (record { from = slot; to = other }) h) × Roomy h)
CallStepped ways None slot call out h out' h' = (out' ≡ out ++ Agg slot call (ways.of_call call) 0 ∷ []) × ((h' ≡ known_more (record { slot = slot; call = call }) h) × Roomy h)

-- what is done at a node
abbrev pub Stepped : (AggUse → AggUse → Bool) → Ways → Node → List Node → Here → List Node → Here → Type 0
Stepped same ways Empty out h out' h' = (out' ≡ out ++ Empty ∷ []) × (h' ≡ closed h)
Stepped same ways (Extend slot e place child) out h out' h' = (out' ≡ out ++ Extend slot (moved (reverse h.renamings) e) place 0 ∷ []) × (h' ≡ h)
Stepped same ways (Agg slot call way child) out h out' h' =
    CallStepped ways (slot_of same (moved_call (reverse h.renamings) call) (reverse h.above)) slot (moved_call (reverse h.renamings) call) out h out' h'
Stepped same ways (Split cond place x y) out h out' h' = (out' ≡ out ++ Split (moved (reverse h.renamings) cond) place 0 0 ∷ []) × (h' ≡ forked h)
Stepped same ways (Effect act way) out h out' h' =
    (out' ≡ out ++ Effect (moved_act (reverse h.renamings) act) (ways.of_act (moved_act (reverse h.renamings) act)) ∷ []) × (h' ≡ closed h)
Stepped same ways (Both x y) out h out' h' = (out' ≡ out ++ Both 0 0 ∷ []) × (h' ≡ forked h)

pub record MergesCall (script : TScript) (slot : ℕ) (call : AggUse) (out : List Node) (h : Here) (out' : List Node) (h' : Here) : Type 0 where
  pub is : CallStepped (ways_of script) (slot_of same_call call (reverse h.above)) slot call out h out' h'

pub record Merges (script : TScript) (node : Node) (out : List Node) (h : Here) (out' : List Node) (h' : Here) : Type 0 where
  pub is : Stepped same_call (ways_of script) node out h out' h'

-- calls that are made again are merged
pub record IsMerged (script : TScript) (nodes out : List Node) : Type 0 where
  pub is : (t : Tree) → nodes ≡ numbered t 0 → out ≡ bare (unified same_call (ways_of script) t [] [])
