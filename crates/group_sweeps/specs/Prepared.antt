-- Sweeps up to where groups are swept.
use Rattle.std.specs.Prelude.{ℕ, ◌<◌, ◌≤◌, All, List, length}
use Rattle.sgl_values.specs.World.{World}
use Rattle.sgl_typed.specs.declared.script.TAgg.{TAgg}
use Rattle.sgl_typed.specs.declared.script.TExpr.{TExpr}
use Rattle.sgl_typed.specs.declared.script.TScript.{TScript}
use Rattle.row_groups.specs.Groups.{Grouping}
use Rattle.group_sweeps.specs.declared.prepared.PreparedSweep.{PreparedSweep}
use Rattle.group_sweeps.specs.Asks.{AreAsks, groups_asked}
use Rattle.group_sweeps.specs.Extremes.{sides_of}
use Rattle.group_sweeps.specs.Finds.{point_by}
use Rattle.group_sweeps.specs.Laying.{AreGroupsLaid}
use Rattle.sgl_values.specs.declared.limit.TheConstants.{ROWS_MAX}

-- the groups that rows ask for are there, and the points that are laid out are those of groups
pub record IsReady (prepared : PreparedSweep) (agg : TAgg) (world : World) (groups : Grouping) : Type 0 where
  pub few : length prepared.asks.items ≤ ROWS_MAX
  pub inside : All (λ group. group < length groups.lists) (groups_asked prepared.asks.items)
  pub laid : AreGroupsLaid (point_by (sides_of agg) world) groups.lists prepared.laid.items

-- and what is asked for is what the aggregate with these arguments asks for, with each row as the acting one
pub record IsPrepared (prepared : PreparedSweep) (agg : TAgg) (script : TScript) (world : World) (seed : ℕ) (args : List TExpr) (groups : Grouping) : Type 0 where
  pub ready : IsReady prepared agg world groups
  pub asks : AreAsks script world seed agg.tests args groups (length world.rows) prepared.asks.items
