use Rattle.std.proofs.Common.{◌<◌, map, take}
use Rattle.std.specs.Prelude.{All}
use Rattle.row_groups.specs.Ranked.{HoldGroups, IsAcross}
use Rattle.row_groups.specs.declared.ranked.Ranked.{Ranked}
use Rattle.row_groups.proofs.Counting.{ArePlaced}
use Rattle.row_groups.proofs.ranked.ranked_rows.Given as goal

abbrev pub invariant-loop-group : goal.invariant-loop-group
invariant-loop-group l = record {
  held : HoldGroups l.ranked.items (take l.group l.groups.lists) l.axis l.across l.world.world;
  each : All (IsAcross l.across l.world.world) l.ranked.items;
  groups : All (λ one. one.group < 65536) l.ranked.items;
  placed : ArePlaced l.groups.lists l.group (map (λ (r : Ranked). r.row) l.ranked.items);
}
