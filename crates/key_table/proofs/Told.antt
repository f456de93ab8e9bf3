-- The keys that a tag tells.
use Rattle.std.proofs.Common.{◌≡◌, pos, map}
use Rattle.std.proofs.lemmas.Simd.{map-map}
use Rattle.sgl_values.specs.World.{World}
use Rattle.key_table.specs.Keys.{keys_of}

pub told_keys : (world : World) → map pos (map (λ row. row.key) world.rows) ≡ keys_of world
told_keys world = map-map pos (λ row. row.key) world.rows
