use Rattle.std.proofs.Common.{arith}
use Rattle.cell_keep.specs.declared.held.Held.{Held}
use Rattle.cell_keep.proofs.Holding.{none_placed}
use Rattle.cell_keep.proofs.held.Held.none.Goals as goal

pub returns-clause-placed : goal.returns-clause-placed
returns-clause-placed c =
    let points = c.in_ok-points.points in
    let held : Held = record { points = points; order = c.in_ok-order.order; keys = c.in_ok-keys.keys; links = c.in_ok-links.links } in
    none_placed held c.in_ok-order.ensures.items c.in_ok-keys.ensures.items c.in_ok-links.ensures.rows c.in_ok-links.ensures.full (omega (arith, points.ok, c.in_ok-points.ensures.len)) c.in_ok-links.ensures.none
