use Rattle.std.proofs.Common.{arith, subst, sym}
use Rattle.sgl_typed.specs.Tick.{combined_from}
use Rattle.tick_postprocess.specs.Runs.{posted_rows, IsRunOf}
use Rattle.tick_postprocess.proofs.CellSteps.{none_told}
use Rattle.tick_postprocess.proofs.KeySteps.{key_grows}
use Rattle.tick_postprocess.proofs.next_world.put_next.Goals as goal

pub returns-in-Some-clause-last : goal.returns-in-Some-clause-last
returns-in-Some-clause-last c =
    let grows = key_grows c.args.ending.now.tick.world.now.world c.args.block.now.end c.args.end c.len-few.ensures.table.fits.rising (omega (arith, c.requires.more)) c.requires.end in
    let above = c.requires.out.above in
    omega (arith, grows, above)

pub returns-in-Some-clause-put : goal.returns-in-Some-clause-put
returns-in-Some-clause-put c items words none first children is =
    none_told (combined_from c.args.ending.now.tick.script.now items 0 c.args.ending.now.tick.world.now.world.rows) c.args.block.now.end c.begin_at.new.self.end c.in-Some.fault none
    (c.in-Some.ensures.wide items words)

pub returns-in-Ok-clause-last : goal.returns-in-Ok-clause-last
returns-in-Ok-clause-last c =
    let grows = key_grows c.args.ending.now.tick.world.now.world c.begin_at.new.self.end c.args.end c.len-few.ensures.table.fits.rising c.begin_at.ensures.end c.requires.end in
    omega (arith, grows, c.put_block.ensures.last)

pub returns-in-Some-first_wide_between-clause-last : goal.returns-in-Some-first_wide_between-clause-last
returns-in-Some-first_wide_between-clause-last c =
    let grows = key_grows c.args.ending.now.tick.world.now.world c.begin_at.new.self.end c.args.end c.len-few.ensures.table.fits.rising c.begin_at.ensures.end c.requires.end in
    omega (arith, grows, c.put_block.ensures.last)

pub returns-in-Some-first_wide_between-clause-put : goal.returns-in-Some-first_wide_between-clause-put
returns-in-Some-first_wide_between-clause-put c items words none first children is =
    none_told (combined_from c.args.ending.now.tick.script.now items 0 c.args.ending.now.tick.world.now.world.rows) c.begin_at.new.self.end c.args.end c.in-Some-first_wide_between.wide none
    (c.in-Some-first_wide_between.ensures.told items words)

pub returns-in-None-clause-last : goal.returns-in-None-clause-last
returns-in-None-clause-last c =
    let grows = key_grows c.args.ending.now.tick.world.now.world c.begin_at.new.self.end c.args.end c.len-few.ensures.table.fits.rising c.begin_at.ensures.end c.requires.end in
    omega (arith, grows, c.put_block.ensures.last)

pub returns-in-None-clause-put : goal.returns-in-None-clause-put
returns-in-None-clause-put c items words none first children is =
    let e = c.args.ending.now in
    c.in-Err.ensures.put items words none first children
    (subst (λ n. IsRunOf (posted_rows e.tick.script.now e.tick.world.now.world e.tick.seed items) first n c.args.out.now.table.world.rows children) (sym c.begin_at.ensures.first) is)
