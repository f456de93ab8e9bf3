-- The items of a plan, and the frames that reach it.
use Rattle.std.specs.Prelude.{ℕ, List, map, Option, Some, None}
use Rattle.std.specs.List.Sorted.{IsPermutation}
use Rattle.sgl_values.specs.World.{Row, World}
use Rattle.sgl_values.specs.declared.item.Item.{Item}
use Rattle.sgl_typed.specs.Items.{start_with, tick_items}
use Rattle.sgl_typed.specs.declared.script.TScript.{TScript}
use Rattle.battle_algebra.specs.Meaning.{calls_reached, rows_items}
use Rattle.battle_algebra.specs.Tree.{Tree, Nothing, tree_of}
use Rattle.battle_algebra.specs.declared.plan.Node.{Node}

abbrev pub tree_or : Option Tree → Tree
tree_or None = Nothing
tree_or (Some tree) = tree

-- the tree of the nodes of a plan
abbrev pub tree_in : List Node → Tree
tree_in nodes = tree_or (tree_of nodes)

-- the items of a plan with so many slots for these rows
abbrev pub plan_items : List Node → ℕ → TScript → List Row → World → ℕ → List Item
plan_items nodes slots script rows world seed = rows_items (tree_in nodes) slots script rows world seed

-- the frames that reach nodes of an aggregate
abbrev pub plan_calls : ℕ → List Node → ℕ → TScript → World → ℕ → ℕ
plan_calls agg nodes slots script world seed = calls_reached agg (tree_in nodes) (map (start_with slots script world seed) world.rows)

-- a plan gives the items of the script, as a bag, on every world
abbrev pub GivesItems : TScript → List Node → ℕ → Type 0
GivesItems script nodes slots = (world : World) (seed : ℕ) → IsPermutation (plan_items nodes slots script world.rows world seed) (tick_items script world seed)
