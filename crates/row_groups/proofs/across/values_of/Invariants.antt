use Rattle.std.proofs.Common.{◌≡◌, map, take}
use Rattle.row_groups.specs.Keys.{along}
use Rattle.row_groups.proofs.across.values_of.Given as goal

abbrev pub invariant-loop-row : goal.invariant-loop-row
invariant-loop-row l = l.values.items ≡ map (along l.across) (take l.row l.world.world.rows)
