-- Nodes that are written one after the other.
use Rattle.std.specs.Prelude.{ℕ, ◌+◌, ◌≡◌, List, [], ◌∷◌, ◌++◌, length}
use Rattle.plan_translate.specs.Calls.{Lifted}
use Rattle.battle_algebra.specs.Tree.{Tree, numbered}
use Rattle.battle_algebra.specs.declared.plan.Node.{Node}
use Rattle.battle_algebra.specs.declared.plan.EffectWay.TheVariants as effect_way
use Rattle.battle_algebra.specs.declared.plan.Node.TheVariants.{Agg, Effect}
use Rattle.battle_algebra.specs.declared.plan.Way.TheVariants.{Scan}
use Rattle.plan_translate.specs.declared.emission.ActionCall.{ActionCall}
use Rattle.plan_translate.specs.declared.translation.Emitted.{Emitted}

-- the nodes of calls; the first has this number
abbrev pub call_nodes : List Lifted → ℕ → List Node
call_nodes [] at = []
call_nodes (lifting ∷ more) at = Agg lifting.slot lifting.call Scan (at + 1) ∷ call_nodes more (at + 1)

-- these calls were written
pub record Emits (old new : Emitted) (calls : List Lifted) : Type 0 where
  pub nodes : new.nodes ≡ old.nodes ++ call_nodes calls (length old.nodes)
  pub next : new.next ≡ old.next + length calls

-- what was written heads a tree: with the nodes of any rest behind it, it is the whole
pub record Heads (old new : List Node) (whole : Tree → Tree) : Type 0 where
  pub heads : (rest : Tree) → new ++ numbered rest (length new) ≡ old ++ numbered (whole rest) (length old)

-- these nodes were written, and no slot was taken
pub record Writes (old new : Emitted) (made : List Node) : Type 0 where
  pub nodes : new.nodes ≡ old.nodes ++ made
  pub next : new.next ≡ old.next

-- the node of a clause of an action
abbrev pub clause_node : ActionCall → ℕ → Node
clause_node call clause = Effect (record { action = call.action; clause = clause; args = call.args; place = call.place }) effect_way.Scan
