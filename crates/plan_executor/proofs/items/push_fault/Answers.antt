use Rattle.std.proofs.Common.{Some, refl, ap, sym, ◌∙◌, subst}
use Rattle.effect_board.specs.Handles.{view_of}
use Rattle.plan_executor.specs.Giving.{IsGiven}
use Rattle.sgl_values.specs.Least.{lesser_of}
use Rattle.sgl_values.specs.ItemOrder.{item_fault_cmp}
use Rattle.sgl_values.specs.declared.item.Item.TheVariants.{Faulty}
use Rattle.plan_executor.specs.Sinking.{bounds_of, state_of}
use Rattle.plan_executor.proofs.Pushing.{pushed_within, lost_given}
use Rattle.plan_executor.proofs.items.push_fault.Goals as goal

pub returns-then-count_one-clause-pushes : goal.returns-then-count_one-clause-pushes
returns-then-count_one-clause-pushes c =
    let counted = c.count_one.ensures.within c.if-count_one.true in
    let new = c.count_one.new.sink in
    let bounds = bounds_of c.args.out.now in
    pushed_within bounds (state_of c.args.sink.now c.args.seat.now) (state_of record { batch = new.batch; items = new.items; over = new.over; least = c.lesser-sink.result } c.args.seat.now) (Faulty c.args.fault)
    counted.0 counted.1.0 (ap (λ s. s.over) counted.1.1 ∙ counted.0) (ap (λ s. s.items) counted.1.1)
    (c.lesser-sink.ensures ∙ ap (λ s. lesser_of item_fault_cmp s.least (Some c.args.fault)) counted.1.1) refl
    (λ start items given. lost_given bounds (view_of c.args.seat.now) new.batch.cells (Faulty c.args.fault) (λ row attr inside. refl) start items
    (subst (λ cells. IsGiven bounds.rows bounds.tags start (view_of c.args.seat.now) cells items) (sym (ap (λ s. s.batch.cells) counted.1.1)) given))
