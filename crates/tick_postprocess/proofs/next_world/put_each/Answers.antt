use Rattle.std.proofs.Common.{◌≡◌, ◌+◌, ◌<◌, length, subst, sym, arith}
use Rattle.std.proofs.lemmas.Result.{err_from_is_err_and}
use Rattle.sgl_typed.specs.Tick.{posted}
use Rattle.tick_postprocess.specs.Rows.{bit}
use Rattle.tick_postprocess.specs.Runs.{posted_rows, RunsOn}
use Rattle.tick_postprocess.specs.declared.next_world.Counts.{Counts}
use Rattle.tick_postprocess.proofs.KeySteps.{key_under}
use Rattle.tick_postprocess.proofs.RowSteps.{all_length, combined_row, far_fault, none_at, posted_at}
use Rattle.tick_postprocess.proofs.RunsOn.{can_row, no_rows_on, row_on, rows_on}
use Rattle.tick_postprocess.proofs.next_world.put_each.Goals as goal

pub loop-row-init : goal.loop-row-init
loop-row-init c = no_rows_on c.args.ending.now c.args.block.now.first c.args.out.now

pub put_row-requires-clause-push : goal.put_row-requires-clause-push
put_row-requires-clause-push c =
    let b = c.args.block.now in
    can_row c.args.ending.now b.first c.loop-row.row b.end c.args.out.now c.loop-row.out _ c.len-few.ensures.table c.requires.out c.loop-row.invariant c.loop-row-test.true c.requires.block.inside

pub loop-row-preserved : goal.loop-row-preserved
loop-row-preserved c =
    let e = c.args.ending.now in
    let b = c.args.block.now in
    let world = e.tick.world.now.world in
    let row = c.loop-row.row in
    let fate = c.in_ok-fate.fate in
    let lt : row < length world.rows = omega (arith, c.loop-row-test.true, c.requires.block.inside) in
    let table = c.len-few.ensures.table in
    let one = row_on e row fate c.loop-row.out c.put_row.new.out table lt c.in_ok-fate.ensures.grows (λ items words none. c.in_ok-fate.ensures.put items words (none_at e.tick.script.now items world row lt none)) in
    subst (λ (counts : Counts). RunsOn e b.first (row + 1) c.args.out.now counts c.put_row.new.out)
    (λ i. record { stay = c.loop-row.stay + sym c.one_if-stay.ensures i; children = c.loop-row.children + sym c.one_if-children.ensures i })
    (rows_on e b.first row (row + 1) c.args.out.now c.loop-row.out c.put_row.new.out record { stay = c.loop-row.stay; children = c.loop-row.children } record { stay = bit fate.stays; children = bit fate.spawns }
    table c.loop-row.auto.row (omega (arith, lt)) c.loop-row.invariant one)

pub returns-in_err-fate-clause-last : goal.returns-in_err-fate-clause-last
returns-in_err-fate-clause-last c =
    let under = key_under c.args.ending.now.tick.world.now.world c.loop-row.row c.args.block.now.end c.len-few.ensures.table.fits.rising c.loop-row-test.true c.requires.block.inside in
    omega (arith, under, c.in_err-fate.ensures.grows.last)

pub returns-in_err-fate-clause-put : goal.returns-in_err-fate-clause-put
returns-in_err-fate-clause-put c =
    let e = c.args.ending.now in
    let script = e.tick.script.now in
    let world = e.tick.world.now.world in
    let seed = e.tick.seed in
    let row = c.loop-row.row in
    let lt : row < length world.rows = omega (arith, c.loop-row-test.true, c.requires.block.inside) in
    let told = err_from_is_err_and c.from_residual.result c.from_residual.ensures.1 in
    rw (told.1, told.2) (λ items words none first children is.
    let p = posted script world seed (combined_row script items world row) in
    far_fault (posted_rows script world seed items) first row (children + c.loop-row.children) p c.loop-row.out c.put_row.new.out c.in_err-fate.field-0.0
    (omega (arith, lt, all_length script items world seed)) (posted_at script items world seed row p lt)
    (c.loop-row.invariant.put items words none first children is) (c.in_err-fate.ensures.put items words (none_at script items world row lt none)))

pub returns-clause-put : goal.returns-clause-put
returns-clause-put c =
    let b = c.args.block.now in
    let at : c.loop-row.row ≡ b.end = omega (arith, c.loop-row-test.false, c.loop-row.auto.row-end, c.requires.some) in
    subst (λ n. RunsOn c.args.ending.now b.first n c.args.out.now record { stay = c.loop-row.stay; children = c.loop-row.children } c.loop-row.out) at c.loop-row.invariant
