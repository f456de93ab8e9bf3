use Rattle.std.proofs.Common.{◌≡◌, ◌<◌, ◌++◌, length}
use Rattle.std.specs.Prelude.{All}
use Rattle.row_groups.specs.Groups.{rows_in}
use Rattle.row_groups.specs.Listed.{made_of}
use Rattle.row_groups.proofs.points.group_points.Given as goal

abbrev pub invariant-loop-row : goal.invariant-loop-row
invariant-loop-row g l = record {
  made : l.points.items ≡ made_of (g.P.PointAttrs.make l.attrs) l.world.world l.yielded;
  split : rows_in l.groups l.group ≡ l.yielded ++ l.row-iterator;
  within : All (λ row. row < length l.world.world.rows) l.row-iterator;
}
