-- Where all bits of the size and the excess together are below the end, both are.
use Rattle.std.proofs.Common.{◌<◌, ◌≤◌, bit_or, arith}
use Rattle.std.proofs.lemmas.Nat.{le_or_l, le_or_r}
use Rattle.sgl_lanes.proofs.lane_division.height.Goals as goal

pub returns : goal.returns
returns c small =
    let first : c.size.result ≤ bit_or c.size.result c.excess.result = le_or_l c.size.result c.excess.result in
    let second : c.excess.result ≤ bit_or c.size.result c.excess.result = le_or_r c.size.result c.excess.result in
    let below : c.excess.result < 1073741824 = omega (arith, second, small) in
    record { left = c.size.ensures.short (omega (arith, first, small)); low = c.excess.ensures.low below; high = c.excess.ensures.high below }
