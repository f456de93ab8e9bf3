use Rattle.std.proofs.Common.{◌+◌, ap, ◌∙◌}
use Rattle.env_table.specs.Table.{Table}
use Rattle.tick_postprocess.specs.Rows.{shortage_of}
use Rattle.tick_postprocess.specs.Runs.{posted_rows}
use Rattle.tick_postprocess.proofs.RowSteps.{finished_with, refused}
use Rattle.tick_postprocess.proofs.next_world.close_rows.Goals as goal

pub returns-in-Some-clause-told : goal.returns-in-Some-clause-told
returns-in-Some-clause-told c items words none put =
    let world = c.args.ending.now.tick.world.now.world in
    let all = posted_rows c.args.ending.now.tick.script.now world c.args.ending.now.tick.seed items in
    let counts = c.args.counts in
    refused world all c.args.out.table.world.rows counts.stay counts.children c.in-Some.fault put.0 put.1 c.requires.half.rows put.2
    (c.in-Some.ensures.told ∙ ap (λ n. shortage_of n counts.stay counts.children) c.last_key-last.ensures.value)

pub returns-clause-told : goal.returns-clause-told
returns-clause-told c items words none put =
    let world = c.args.ending.now.tick.world.now.world in
    let all = posted_rows c.args.ending.now.tick.script.now world c.args.ending.now.tick.seed items in
    let counts = c.args.counts in
    finished_with world c.finish.result.world all c.args.out.table.world.rows counts.stay counts.children put.0 put.1 c.requires.half.rows put.2
    (c.in_default.ensures.told ∙ ap (λ n. shortage_of n counts.stay counts.children) c.last_key-last.ensures.value)
    (ap (λ (t : Table). t.world.tick) c.finish.ensures ∙ c.put_children.ensures.tick ∙ c.requires.half.tick)
    (ap (λ (t : Table). t.world.last_key) c.finish.ensures ∙ ap (λ n. n + counts.children) c.last_key-last.ensures.value)
    (ap (λ (t : Table). t.world.rows) c.finish.ensures ∙ c.put_children.ensures.put items words none put.0 put.2)
