use Rattle.std.proofs.Common.{◌≡◌, List, [], sym, ap, subst, ◌∙◌}
use Rattle.sgl_values.specs.declared.fault.Tag.{Tag}
use Rattle.effect_combine.specs.Batch.{Held, Takes}
use Rattle.effect_combine.specs.declared.cell.Added.{Added}
use Rattle.effect_board.specs.Views.{IsOnBoard}
use Rattle.effect_board.specs.Handles.{view_of, rows_of, tags_of}
use Rattle.plan_executor.specs.Giving.{IsGiven}
use Rattle.plan_executor.proofs.Cells.{deposited, kept_cells, kept_given, taken_empty}
use Rattle.plan_executor.proofs.batching.give_amount.Goals as goal

pub returns-in-Kept-clause-ready : goal.returns-in-Kept-clause-ready
returns-in-Kept-clause-ready c =
    let board = c.args.board.now in
    let ready = c.make_room.ensures.ready in
    let old : Held = c.make_room.new.batch in
    record {
      of = ready.of;
      tags = c.add.ensures.tags ∙ ready.tags;
      cells = kept_cells (rows_of board) (tags_of board) old c.add.new.self c.args.row c.args.attr c.args.amount ready.tags c.requires.row c.requires.attr
          (subst (λ (added : Added). Takes old c.args.row c.args.attr c.args.amount added c.add.new.self) c.in-Kept.is c.add.ensures.taken) ready.cells;
    }

pub returns-in-Kept-clause-given : goal.returns-in-Kept-clause-given
returns-in-Kept-clause-given c = λ start items given.
    let board = c.args.board.now in
    let old : Held = c.make_room.new.batch in
    kept_given (rows_of board) (tags_of board) old c.add.new.self c.args.row c.args.attr c.args.amount c.make_room.ensures.ready.tags
    (subst (λ (added : Added). Takes old c.args.row c.args.attr c.args.amount added c.add.new.self) c.in-Kept.is c.add.ensures.taken) start (view_of c.make_room.new.seat) items
    (c.make_room.ensures.given start items given)

pub returns-in-Full-clause-given : goal.returns-in-Full-clause-given
returns-in-Full-clause-given c = λ start items given.
    let board = c.args.board.now in
    let rows = rows_of board in
    let tags = tags_of board in
    let ready = c.make_room.ensures.ready in
    let old : Held = c.make_room.new.batch in
    let held : Held = c.add.new.self in
    let left : Held = c.deposit.new.batch in
    let full = subst (λ (added : Added). Takes old c.args.row c.args.attr c.args.amount added held) c.in-Full.is c.add.ensures.taken in
    let same : held ≡ old = full.1 in
    let rest : IsGiven rows tags start (view_of c.deposit.new.seat) [] items
    = deposited rows tags start (view_of c.make_room.new.seat) (view_of c.deposit.new.seat) held.cells items (subst (λ (h : Held). IsOnBoard rows tags h.cells) (sym same) ready.cells) c.deposit.ensures.view
    (subst (λ (h : Held). IsGiven rows tags start (view_of c.make_room.new.seat) h.cells items) (sym same) (c.make_room.ensures.given start items given)) in
    let empty : left ≡ record { tags = tags; cells = [] } = c.deposit.ensures.batch ∙ ap (λ (ts : List Tag). record { tags = ts; cells = [] }) (c.add.ensures.tags ∙ ready.tags) in
    kept_given rows tags left c.add-in-Full.new.self c.args.row c.args.attr c.args.amount (ap (λ (h : Held). h.tags) empty)
    (taken_empty tags left c.add-in-Full.new.self c.args.row c.args.attr c.args.amount c.add-in-Full.result empty c.add-in-Full.ensures.taken) start (view_of c.deposit.new.seat) items
    (subst (λ (h : Held). IsGiven rows tags start (view_of c.deposit.new.seat) h.cells items) (sym empty) rest)
