use Rattle.std.proofs.Common.{◌∙◌, pos, sym, arith}
use Rattle.std.proofs.lemmas.List.{get_or_default, same_lists}
use Rattle.task_scratch.proofs.slot_column.copy_each.Goals as goal

pub returns : goal.returns
returns c =
    let it = c.loop-lane.invariant in
    let long = it.long in
    let told = c.told-numbers in
    let end = c.loop-lane-test.false in
    same_lists c.loop-lane.into c.args.numbers.now (omega (arith, long, told)) (λ k d below.
    get_or_default c.loop-lane.into k d (pos 0) below ∙ it.done k (omega (arith, below, long, end)) ∙ get_or_default c.args.numbers.now k (pos 0) d (omega (arith, below, long, told)))
