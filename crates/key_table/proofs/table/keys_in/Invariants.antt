use Rattle.std.proofs.Common.{◌≡◌, pos, map, take}
use Rattle.key_table.proofs.table.keys_in.Given as goal

abbrev pub invariant-loop-row : goal.invariant-loop-row
invariant-loop-row l = l.keys.items ≡ map (λ row. pos row.key) (take l.row l.world.world.rows)
