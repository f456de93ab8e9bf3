-- What groups are swept for.
use Rattle.std.specs.Prelude.{◌≡◌}
use Rattle.key_table.specs.Keys.{keys_of}
use Rattle.row_groups.specs.Groups.{IsGroups}
use Rattle.group_sweeps.specs.declared.group_sweep.Sweeping.{Sweeping}
use Rattle.group_sweeps.specs.Finds.{point_by}
use Rattle.group_sweeps.specs.Laying.{AreGroupsLaid}

-- the keys and the groups are those of the rows of the world, and the points that are laid out are those of groups
pub record IsLaid (of : Sweeping) : Type 0 where
  pub keys : of.keys.now ≡ keys_of of.world.now.world
  pub groups : IsGroups of.groups.now of.groups.now.attrs of.world.now.world.rows
  pub laid : AreGroupsLaid (point_by of.sides of.world.now.world) of.groups.now.lists of.laid.now
