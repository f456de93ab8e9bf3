use Rattle.std.proofs.Common.{ap, sym, ◌∙◌, subst}
use Rattle.effect_board.specs.Handles.{view_of}
use Rattle.plan_executor.specs.Giving.{IsGiven}
use Rattle.sgl_values.specs.declared.item.Item.TheVariants.{Effect}
use Rattle.plan_executor.specs.Sinking.{bounds_of, state_of}
use Rattle.plan_executor.proofs.Cells.{given_one}
use Rattle.plan_executor.proofs.Pushing.{pushed_within, no_more}
use Rattle.plan_executor.proofs.items.push_effect.Goals as goal

pub returns-then-this-ne0-clause-pushes : goal.returns-then-this-ne0-clause-pushes
returns-then-this-ne0-clause-pushes g c =
    let counted = c.count_one.ensures.within c.if-count_one.true in
    let new = c.count_one.new.sink in
    let bounds = bounds_of c.args.out.now in
    pushed_within bounds (state_of c.args.sink.now c.args.seat.now) (state_of new c.give.new.seat) (Effect c.args.row c.args.attr c.args.amount)
    counted.0 counted.1.0 (ap (λ s. s.over) counted.1.1 ∙ counted.0) (ap (λ s. s.items) counted.1.1)
    (ap (λ s. s.least) counted.1.1 ∙ sym (no_more c.args.sink.now.least)) c.value-number.ensures.amount
    (λ start items given. given_one bounds.rows bounds.tags start (view_of c.args.seat.now) (view_of c.give.new.seat) new.batch.cells items c.args.row c.args.attr c.args.amount c.requires.attr c.give.ensures.view
    (subst (λ cells. IsGiven bounds.rows bounds.tags start (view_of c.args.seat.now) cells items) (sym (ap (λ s. s.batch.cells) counted.1.1)) given))

pub returns-else-this-ne0-clause-pushes : goal.returns-else-this-ne0-clause-pushes
returns-else-this-ne0-clause-pushes g c =
    let counted = c.count_one.ensures.within c.if-count_one.true in
    let new = c.count_one.new.sink in
    let bounds = bounds_of c.args.out.now in
    pushed_within bounds (state_of c.args.sink.now c.args.seat.now) (state_of record { batch = c.give_amount.new.batch; items = new.items; over = new.over; least = new.least } c.give_amount.new.seat) (Effect c.args.row c.args.attr c.args.amount)
    counted.0 counted.1.0 (ap (λ s. s.over) counted.1.1 ∙ counted.0) (ap (λ s. s.items) counted.1.1)
    (ap (λ s. s.least) counted.1.1 ∙ sym (no_more c.args.sink.now.least)) c.value-number.ensures.amount
    (λ start items given. c.give_amount.ensures.given start items
    (subst (λ cells. IsGiven bounds.rows bounds.tags start (view_of c.args.seat.now) cells items) (sym (ap (λ s. s.batch.cells) counted.1.1)) given))
