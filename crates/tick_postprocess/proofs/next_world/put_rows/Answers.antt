use Rattle.std.proofs.Common.{◌≤◌, length, arith}
use Rattle.std.specs.Option.{option_map}
use Rattle.sgl_typed.specs.Tick.{combined_from}
use Rattle.tick_postprocess.specs.Answer.{told}
use Rattle.tick_postprocess.specs.Runs.{posted_rows, wide_in}
use Rattle.tick_postprocess.proofs.CellSteps.{combined-length, wide_to_end}
use Rattle.tick_postprocess.proofs.RowSteps.{all_length, far_all}
use Rattle.tick_postprocess.proofs.RunSteps.{half_of}
use Rattle.tick_postprocess.proofs.next_world.put_rows.Goals as goal

pub returns-clause-half : goal.returns-clause-half
returns-clause-half c =
    half_of c.args.ending.now.tick.world.now c.args.out.now c.put_run.new.out c.len.result c.put_run.result c.len.ensures.table c.len.ensures.value c.requires.out c.put_run.ensures.last c.put_run.ensures.out

pub returns-clause-put : goal.returns-clause-put
returns-clause-put c items words none =
    let script = c.args.ending.now.tick.script.now in
    let world = c.args.ending.now.tick.world.now.world in
    let seed = c.args.ending.now.tick.seed in
    let all = posted_rows script world seed items in
    let past : length all ≤ c.len.result = omega (arith, all_length script items world seed, c.len.ensures.value) in
    far_all all c.len.result c.put_run.result c.put_run.new.out past (c.put_run.ensures.put items words none)

pub returns-clause-wide : goal.returns-clause-wide
returns-clause-wide c items words =
    let rows = c.args.ending.now.tick.world.now.world.rows in
    let all = combined_from c.args.ending.now.tick.script.now items 0 rows in
    let past : length all ≤ c.len.result = omega (arith, c.len.ensures.value, combined-length c.args.ending.now.tick.script.now items 0 rows) in
    wide_to_end all c.len.result (option_map told (wide_in c.put_run.result)) past (c.put_run.ensures.wide items words)
