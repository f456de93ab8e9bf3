use Rattle.std.proofs.Common.{◌≡◌, length, drop}
use Rattle.tick_postprocess.proofs.PieceSteps.{first_row, join_end, last_row, next_can, next_more}
use Rattle.tick_postprocess.proofs.pieces.join_pieces.Goals as goal

pub push_made-requires : goal.push_made-requires
push_made-requires c =
    let e = c.args.ending.now in
    next_can e.tick.script.now e.tick.world.now e.combined.now e.tick.seed c.args.pieces.now c.loop-at.at c.loop-at.stay c.loop-at.children c.loop-at.out c.index-pieces-at.result c.in_ok-counts.counts
    c.len-few.ensures.table c.requires.pieces c.loop-at-test.true c.index-pieces-at.is c.in_ok-counts.was c.loop-at.invariant

pub loop-at-preserved : goal.loop-at-preserved
loop-at-preserved c =
    let e = c.args.ending.now in
    next_more e.tick.script.now e.tick.world.now e.combined.now e.tick.seed c.args.pieces.now c.loop-at.at c.loop-at.stay c.loop-at.children c.loop-at.out c.push_made.new.out c.index-pieces-at.result c.in_ok-counts.counts
    c.requires.pieces c.loop-at-test.true c.index-pieces-at.is c.in_ok-counts.was c.loop-at.invariant c.push_made.ensures

pub returns-clause-put : goal.returns-clause-put
returns-clause-put c items words none =
    let e = c.args.ending.now in
    let n = length e.tick.world.now.world.rows in
    let row = first_row n (drop c.loop-at.at c.args.pieces.now) in
    let is : row ≡ n = last_row n c.args.pieces.now c.loop-at.at c.loop-at-test.false in
    join_end e.tick.script.now e.tick.world.now e.combined.now e.tick.seed row c.loop-at.stay c.loop-at.children c.loop-at.out items is c.loop-at.invariant words none
