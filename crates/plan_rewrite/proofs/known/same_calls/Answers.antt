use Rattle.plan_rewrite.proofs.SameCalls.{same_calls_is}
use Rattle.plan_rewrite.proofs.known.same_calls.Goals as goal

pub returns : goal.returns
returns c =
    same_calls_is c.args.a.now c.args.b.now c.as_slice.result.now c.as_slice-2.result.now c.are_all_same.result c.if-a-b.false c.as_slice.ensures c.as_slice-2.ensures c.are_all_same.ensures.0 c.are_all_same.ensures.1
