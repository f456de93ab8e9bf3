use Rattle.std.proofs.Common.{◌≡◌, ◌<◌, ◌++◌, length, map}
use Rattle.std.specs.Prelude.{All}
use Rattle.row_groups.specs.Groups.{rows_in}
use Rattle.row_groups.specs.Ranked.{ranked_row, IsAcross}
use Rattle.row_groups.proofs.ranked.push_group.Given as goal

abbrev pub invariant-loop-row : goal.invariant-loop-row
invariant-loop-row l = record {
  made : l.ranked.items ≡ l.initial.ranked.items ++ map (ranked_row l.axis l.across l.world.world l.group) l.yielded;
  each : All (IsAcross l.across l.world.world) l.ranked.items;
  split : rows_in l.groups l.group ≡ l.yielded ++ l.row-iterator;
  within : All (λ row. row < length l.world.world.rows) l.row-iterator;
}
