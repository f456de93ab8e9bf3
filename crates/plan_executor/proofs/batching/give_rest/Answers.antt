use Rattle.std.proofs.Common.{sym, subst}
use Rattle.effect_combine.specs.Batch.{Held}
use Rattle.effect_board.specs.Handles.{view_of, rows_of, tags_of}
use Rattle.plan_executor.specs.Sinking.{GaveItems}
use Rattle.plan_executor.proofs.Cells.{deposited}
use Rattle.plan_executor.proofs.batching.give_rest.Goals as goal

pub returns-clause-given : goal.returns-clause-given
returns-clause-given c = λ start items given.
    let board = c.args.board.now in
    subst (λ (h : Held). GaveItems board start c.deposit.new.seat h items) (sym c.deposit.ensures.batch)
    (deposited (rows_of board) (tags_of board) start (view_of c.args.seat.now) (view_of c.deposit.new.seat) c.args.batch.now.cells items c.requires.ready.cells c.deposit.ensures.view given)
