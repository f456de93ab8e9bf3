use Rattle.std.proofs.Common.{refl}
use Rattle.sgl_typed.specs.Aggregate.{simple_value}
use Rattle.sgl_typed.specs.Items.{written}
use Rattle.sgl_typed.specs.declared.script.TWrite.{TWrite}
use Rattle.sgl_evaluate.specs.Frame.{context_of}
use Rattle.plan_executor.proofs.Pushing.{map_more}
use Rattle.plan_executor.proofs.writing.push_writes.Goals as goal

pub loop-write-preserved : goal.loop-write-preserved
loop-write-preserved c =
    let seen = context_of c.args.frame.now in
    let item = c.write-item.result in
    record {
      ready = c.push_write.ensures.ready;
      leads = map_more (λ (w : TWrite). written seen c.args.frame.now.target w (simple_value seen w.amount)) c.args.writes.now c.loop-write.write-index item c.loop-write-test.true c.write-item.is c.loop-write.invariant.leads
          c.push_write.ensures.pushes refl;
    }
