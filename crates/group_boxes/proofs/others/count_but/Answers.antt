-- The points of the groups so far are no more than those of all.
use Rattle.std.proofs.Common.{◌+◌, ◌∙◌, arith, length, sym}
use Rattle.group_boxes.proofs.Apart.{but_fits, but_more}
use Rattle.group_boxes.proofs.others.count_but.Goals as goal

pub overflow_add-count : goal.overflow_add-count
overflow_add-count c =
    let part = c.args.part.now in
    let fits = but_fits part.boxes.now c.args.across c.args.down c.args.own c.loop-group.group (length part.groups.now.lists)
    (omega (arith, c.loop-group-test.true, c.len-group-end.ensures.value)) in
    omega (arith, fits, c.requires, c.loop-group.invariant, c.count_unless-count.ensures)

pub loop-group-preserved : goal.loop-group-preserved
loop-group-preserved c =
    let part = c.args.part.now in
    (λ i. c.loop-group.invariant i + c.count_unless-count.ensures i)
    ∙ sym (but_more part.boxes.now c.args.across c.args.down c.args.own c.loop-group.group)
