use Rattle.std.proofs.Common.{◌∙◌, ◌<◌, ◌≤◌, ◌+ℤ◌, ℤ, ap, pos, arith, get_or, length, sym, take}
use Rattle.std.proofs.lemmas.Int.{ints}
use Rattle.std.proofs.lemmas.List.{get_or_default, length-take}
use Rattle.std.proofs.lemmas.List.Elements.{All-take}
use Rattle.sgl_values.specs.World.{IsRow, row_at}
use Rattle.sgl_typed.specs.declared.script.Attr.TheVariants.{Const}
use Rattle.battle_report.proofs.Sums.{sum_more, sum_near}
use Rattle.battle_report.proofs.summary_line.put_sums.Goals as goal

pub add_row-requires-clause-room : goal.add_row-requires-clause-room
add_row-requires-clause-room c attr d inside =
    let table = c.args.world.now in
    let rows = take c.loop-row.row table.world.rows in
    let narrow : attr < table.width = omega arith in
    let short : length rows ≤ 65536 = omega (arith, length-take c.loop-row.row table.world.rows) in
    omega (
      arith,
      ints,
      get_or_default c.loop-row.sums attr d (pos 0) inside,
      c.loop-row.invariant attr inside,
      sum_near table.width attr rows narrow (All-take (IsRow table.width) c.loop-row.row table.world.rows c.len-row-end.ensures.table.fits.rows_fit),
    )

pub loop-row-preserved : goal.loop-row-preserved
loop-row-preserved c attr inside =
    let rows = c.args.world.now.world.rows in
    let row = c.loop-row.row in
    let held : attr < length c.loop-row.sums = omega arith in
    c.add_row.ensures attr held
    ∙ ap (λ (z : ℤ). z +ℤ get_or (row_at c.args.world.now.world row).values attr (pos 0)) (c.loop-row.invariant attr held)
    ∙ sym (sum_more (Const attr) rows row _ (omega arith))
