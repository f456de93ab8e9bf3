-- The points of the group stand in another order where they are laid out.
use Rattle.std.proofs.Common.{[], get_or, length, map, subst, sym}
use Rattle.group_sweeps.specs.Finds.{point_by}
use Rattle.group_sweeps.specs.Laying.{IsGroupLaid}
use Rattle.group_sweeps.proofs.Finding.{made_moved}
use Rattle.group_sweeps.proofs.group_sweep.find_among.Goals as goal

pub returns-in-Some : goal.returns-in-Some
returns-in-Some g c =
    let of = c.args.of.now in
    let world = of.world.now.world in
    let point = point_by of.sides world in
    let lists = of.groups.now.lists in
    let group = c.args.group in
    let rows = c.args.rows.now in
    let laid = c.in-Some.laid.now in
    let found = c.in-Some.ensures.lookup in
    made_moved c.order_changes_no_least.ensures world (map point (get_or lists group [])) laid of.asks.now rows (length rows) c.find_rows.result
    (subst (IsGroupLaid point lists group) (sym found.1) (c.requires.of.laid group laid found.3.0)) c.find_rows.ensures

pub returns-in_ok-laid-in-None : goal.returns-in_ok-laid-in-None
returns-in_ok-laid-in-None g c =
    let of = c.args.of.now in
    let world = of.world.now.world in
    let points = map (point_by of.sides world) (get_or of.groups.now.lists c.args.group []) in
    let rows = c.args.rows.now in
    made_moved c.order_changes_no_least.ensures world points c.in_ok-laid-in-None.laid of.asks.now rows (length rows) c.find_rows-in-None.result
    c.in_ok-laid-in-None.ensures c.find_rows-in-None.ensures
