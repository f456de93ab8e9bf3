-- The keys of a world.
use Rattle.std.specs.Prelude.{ℤ, pos, List, map}
use Rattle.sgl_values.specs.World.{World}

-- the key of each row, in order
abbrev pub keys_of : World → List ℤ
keys_of world = map (λ row. pos row.key) world.rows
