use Rattle.std.proofs.Common.{◌≡◌, ◌∙◌, ◌+◌, arith, subst}
use Rattle.std.proofs.lemmas.Result.{err_from_is_err_and}
use Rattle.tick_postprocess.specs.Runs.{posted_rows, IsRunOf}
use Rattle.tick_postprocess.proofs.RowSteps.{far_start}
use Rattle.tick_postprocess.proofs.RunsOn.{rows_on}
use Rattle.tick_postprocess.proofs.next_world.put_run.Goals as goal

pub returns-in_err-counts-clause-put : goal.returns-in_err-counts-clause-put
returns-in_err-counts-clause-put c items words none =
    let e = c.args.ending.now in
    let all = posted_rows e.tick.script.now e.tick.world.now.world e.tick.seed items in
    let start = far_start all c.args.first c.args.out.now.table.world.rows c.requires.out.empty in
    let told = err_from_is_err_and c.from_residual.result c.from_residual.ensures.1 in
    rw (told.1, told.2)
    (c.in_err-counts.ensures.put items words none c.args.first (0 + c.loop-block.children) (c.loop-block.invariant.runs.put items words none c.args.first 0 start))

pub loop-block-preserved : goal.loop-block-preserved
loop-block-preserved c =
    let inv = c.loop-block.invariant in
    record {
      order = omega (arith, inv.order, c.put_next.ensures.more);
      within = c.put_next.ensures.within;
      clear = λ items words. inv.clear items words ∙ c.in_ok-counts.ensures.wide items words;
      runs =
          rows_on c.args.ending.now c.args.first c.loop-block.block.end c.put_next.new.block.end c.args.out.now c.loop-block.out c.put_next.new.out
          record { stay = c.loop-block.stay; children = c.loop-block.children } c.in_ok-counts.counts c.len-few.ensures.table inv.order (omega (arith, inv.within, c.requires.run.inside))
          inv.runs c.in_ok-counts.ensures.put;
    }

pub returns-clause-put : goal.returns-clause-put
returns-clause-put c items words none =
    let e = c.args.ending.now in
    let all = posted_rows e.tick.script.now e.tick.world.now.world e.tick.seed items in
    let start = far_start all c.args.first c.args.out.now.table.world.rows c.requires.out.empty in
    let at : c.loop-block.block.end ≡ c.args.end = omega (arith, c.loop-block-test.false, c.loop-block.invariant.within) in
    subst (λ n. IsRunOf all c.args.first n c.loop-block.out.table.world.rows c.loop-block.children) at
    (subst (λ n. IsRunOf all c.args.first c.loop-block.block.end c.loop-block.out.table.world.rows n) (omega arith) (c.loop-block.invariant.runs.put items words none c.args.first 0 start))
