use Rattle.std.proofs.Common.{◌≡◌, ◌+◌, ◌∙◌, List, take, ap, subst, sym}
use Rattle.sgl_values.specs.World.{row_at, Row}
use Rattle.sgl_typed.specs.Tick.{post_context}
use Rattle.sgl_typed.specs.Value.{Context}
use Rattle.sgl_typed.specs.declared.script.TRule.{TRule}
use Rattle.tick_postprocess.specs.Blocks.{AreKnown}
use Rattle.tick_postprocess.proofs.assigning.put_new.Goals as goal

pub assign-requires-clause-known : goal.assign-requires-clause-known
assign-requires-clause-known c =
    let rows = c.args.rows.now in
    let e = rows.ending.now in
    let script = e.tick.script.now in
    let world = e.tick.world.now.world in
    let known = c.args.known.now in
    let lane = c.args.lane in
    let here : Row = record { key = c.key.result; values = c.put_values-2.new.buffer } in
    let row : here ≡ row_at world (rows.first + lane) =
    (λ i. record { key = c.key.ensures i; values = c.put_values-2.ensures i }) ∙ ap (row_at world) c.row-row.ensures in
    subst (λ (rules : List TRule). AreKnown known lane (post_context script world e.tick.seed (take c.len.result c.cells_of-cells.result) here) rules) (sym c.as_slice.ensures)
    (subst (λ (x : Context). AreKnown known lane x script.rules)
    (sym (λ i. post_context script world e.tick.seed (take (c.len.ensures i) (c.cells_of-cells.ensures i)) (row i))) c.requires.known)
