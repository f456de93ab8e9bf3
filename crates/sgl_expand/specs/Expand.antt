-- What a script is written out to, and when it is refused.
use Rattle.std.specs.Prelude.{◌≡◌, ◌+◌, ◌<◌, ◌≤◌, ℕ, List, []}
use Rattle.sgl_typed.specs.declared.script.TScript.{TScript}
use Rattle.sgl_typed.specs.declared.script.TStmt.{TStmt}
use Rattle.sgl_typed.specs.Sizes.{statements_nodes, statements_depth}
use Rattle.sgl_expand.specs.declared.script.ExpandFault.{ExpandFault}
use Rattle.sgl_expand.specs.declared.script.ExpandFault.TheVariants.{TooLarge, TooNested, Memory}
use Rattle.sgl_expand.specs.Sizes.{capped}
use Rattle.sgl_expand.specs.Written.{lets, written_main}
use Rattle.sgl_values.specs.declared.limit.TheConstants.{DEPTH_MAX, NODES_MAX}

-- `main` of a script, written out
abbrev pub main_of : TScript → List TStmt
main_of script = written_main script.routines script.main

-- the nodes of `main` once it is written out
abbrev pub main_nodes : TScript → ℕ
main_nodes script = statements_nodes [] (main_of script)

-- the depth of its blocks; the block of `main` has depth 1
abbrev pub main_depth : TScript → ℕ
main_depth script = 1 + statements_depth [] (main_of script)

-- the second script is the first with its routines written out
pub record IsWritten (script out : TScript) : Type 0 where
  pub schema : out.schema ≡ script.schema
  pub aggs : out.aggs ≡ script.aggs
  pub actions : out.actions ≡ script.actions
  pub routines : out.routines ≡ []
  pub main : out.main ≡ main_of script
  pub slots : out.slots ≡ lets (main_of script)
  pub rules : out.rules ≡ script.rules
  pub spawn : out.spawn ≡ script.spawn
  pub removal : out.removal ≡ script.removal

-- Too large: more than 20,000 nodes, and their number, or the greatest one of 64 bits. Too nested: not too large, a depth above
-- 256, and the depth. Want of memory is tied to nothing.
abbrev pub IsExpandRefusal : TScript → ExpandFault → Type 0
IsExpandRefusal script (TooLarge nodes) = (NODES_MAX < main_nodes script) × (nodes ≡ capped (main_nodes script))
IsExpandRefusal script (TooNested depth) = (main_nodes script ≤ NODES_MAX) × (DEPTH_MAX < main_depth script) × (depth ≡ main_depth script)
IsExpandRefusal script Memory = Unit {0}

-- small enough to be written out
pub record IsSmall (script : TScript) : Type 0 where
  pub nodes : main_nodes script ≤ NODES_MAX
  pub depth : main_depth script ≤ DEPTH_MAX
