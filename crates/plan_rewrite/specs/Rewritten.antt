-- What rewriting a plan of a script gives.
use Rattle.std.specs.Prelude.{ℕ, ◌≡◌, true, map, List, ◌≤◌}
use Rattle.sgl_typed.specs.declared.script.TScript.{TScript}
use Rattle.battle_algebra.specs.Normal.{IsNormal}
use Rattle.plan_rewrite.specs.Rewrite.{rewritten, with_ways}
use Rattle.battle_algebra.specs.Same.{same_call}
use Rattle.battle_algebra.specs.Tree.{Tree, size}
use Rattle.battle_algebra.specs.ChosenWays.{ways_of, IsNormalFor}
use Rattle.sgl_typed.specs.Items.{start_with}
use Rattle.std.specs.List.Sorted.{IsPermutation}
use Rattle.sgl_values.specs.World.{Row, World}
use Rattle.battle_algebra.specs.Meaning.{calls_reached, rows_items}
use Rattle.battle_algebra.specs.Fit.{tree_fits}

-- a tree that stands in place of another one
pub record StandsFor (script : TScript) (slots : ℕ) (tree new : Tree) : Type 0 where
  pub fits : tree_fits slots new ≡ true
  pub items : (rows : List Row) (world : World) (seed : ℕ) → IsPermutation (rows_items new slots script rows world seed) (rows_items tree slots script rows world seed)
  pub size : size new ≤ size tree
  pub calls : (agg : ℕ) (rows : List Row) (world : World) (seed : ℕ)
      → calls_reached agg new (map (start_with slots script world seed) rows) ≤ calls_reached agg tree (map (start_with slots script world seed) rows)

-- the tree that a plan of the script is rewritten to
abbrev pub rewritten_for : TScript → Tree → Tree
rewritten_for script tree = rewritten same_call (ways_of script) tree

-- what is made of a tree stands for it, is normal, and is the tree itself where this is normal but for its ways
pub record Rewrites (script : TScript) (slots : ℕ) (tree new : Tree) : Type 0 where
  pub stands : StandsFor script slots tree new
  pub normal : IsNormalFor script new
  pub same : IsNormal same_call (with_ways (ways_of script) tree) → new ≡ with_ways (ways_of script) tree
