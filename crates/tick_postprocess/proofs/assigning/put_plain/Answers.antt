use Rattle.std.proofs.Common.{◌≡◌, ◌+◌, ◌∙◌, ◌<◌, ℤ, List, [], length, take, slice_index_or, ap, subst, sym, arith}
use Rattle.std.proofs.lemmas.List.Elements.{All-get_or}
use Rattle.env_table.specs.Table.{numbers_in}
use Rattle.sgl_values.specs.World.{row_at, IsRow}
use Rattle.sgl_typed.specs.Tick.{assigned, with_values}
use Rattle.sgl_typed.specs.declared.script.TRule.{TRule}
use Rattle.sgl_lanes.specs.Lanes.{lane_of}
use Rattle.tick_postprocess.specs.Blocks.{chosen, lane_context}
use Rattle.tick_postprocess.proofs.CellSteps.{cells_are}
use Rattle.tick_postprocess.proofs.Chosen.{chosen_value, length-with_values, no_faults}
use Rattle.tick_postprocess.proofs.assigning.put_plain.Goals as goal

pub returns : goal.returns
returns c lane below =
    let rows = c.args.rows.now in
    let world = rows.ending.now.tick.world.now in
    let x = lane_context rows lane in
    let rules = rows.ending.now.tick.script.now.rules in
    let known = c.args.known.now in
    let columns = rows.columns.now in
    let new = c.put_chosen.new.new in
    let can = c.requires.read lane below in
    let width = c.width.ensures in
    let row = row_at world.world (rows.first + lane) in
    let is : IsRow world.width row = All-get_or (IsRow world.width) world.world.rows (rows.first + lane) record { key = 0; values = [] } can.row width.table.fits.rows_fit in
    let after = with_values (assigned x rules) row.values in
    let long : length after ≡ world.width = length-with_values (assigned x rules) row.values ∙ is.full in
    record {
      values =
          ap (λ n. take n (numbers_in new lane)) (sym long)
          ∙ cells_are new lane after (omega (arith, long, c.put_chosen.ensures.length, width.value, width.narrow)) (λ k lt.
          let narrow : k < world.width = omega (arith, lt, long) in
          let wide = rows.wide in
          let put : slice_index_or new k [] ≡ chosen rules known k (slice_index_or columns k []) =
          subst (λ (some : List TRule). slice_index_or new k [] ≡ chosen some known k (slice_index_or columns k [])) c.as_slice.ensures (c.put_chosen.ensures.chosen k (omega (arith, narrow, width.value))) in
          ap (λ (column : List ℤ). lane_of column lane) put
          ∙ sym (chosen_value x lane rules known k (slice_index_or columns k []) row.values c.requires.numbers (c.requires.known lane below) (omega (arith, narrow, is.full))
          (sym (rows.read k (omega (arith, narrow, wide)) narrow lane can.below can.row))));
      fault = sym (no_faults x lane rules known c.requires.numbers (c.requires.known lane below));
    }
