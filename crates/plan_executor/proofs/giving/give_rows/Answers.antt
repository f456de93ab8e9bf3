use Rattle.std.proofs.Common.{ap, length, arith}
use Rattle.sgl_typed.specs.Items.{writes}
use Rattle.sgl_evaluate.specs.Frame.{context_of}
use Rattle.plan_executor.specs.Sinking.{bounds_of, state_of}
use Rattle.plan_executor.specs.Targets.{writes_at}
use Rattle.plan_executor.proofs.TargetRows.{first_inside, rest_inside, rows_more, rows_end}
use Rattle.plan_executor.proofs.Pushing.{Leads-start, Leads-over}
use Rattle.plan_executor.proofs.giving.give_rows.Goals as goal

pub rows-init : goal.rows-init
rows-init c = record { ready = c.requires.ready; inside = c.requires.inside; leads = Leads-start (bounds_of c.args.out.now) (state_of c.args.sink.now c.args.seat.now) _ }

pub returns-then-sink-clause-ready : goal.returns-then-sink-clause-ready
returns-then-sink-clause-ready c = c.rows.invariant.ready

pub returns-then-sink-clause-pushes : goal.returns-then-sink-clause-pushes
returns-then-sink-clause-pushes c = Leads-over c.if-sink.true c.rows.invariant.leads

pub with_target-frame-requires : goal.with_target-frame-requires
with_target-frame-requires c = first_inside (length c.args.frame.now.tick.world.now.world.rows) _ _ c.in-Some.row c.rows.invariant.inside c.in-Some.ensures.steps

pub push_writes-requires-clause-ready : goal.push_writes-requires-clause-ready
push_writes-requires-clause-ready c = c.rows.invariant.ready

pub rows-smaller : goal.rows-smaller
rows-smaller c =
    let shorter = ap length c.in-Some.ensures.steps in
    omega (arith, shorter)

pub rows-preserved : goal.rows-preserved
rows-preserved c = record {
  ready = c.push_writes.ensures.ready;
  inside = rest_inside (length c.args.frame.now.tick.world.now.world.rows) _ _ c.in-Some.row c.rows.invariant.inside c.in-Some.ensures.steps;
  leads = rows_more (writes_at (context_of c.args.frame.now) c.args.clause.now.writes) _ _ c.in-Some.row c.in-Some.ensures.steps c.rows.invariant.leads
      (λ i. writes (c.with_target-frame.ensures.context i) (c.with_target-frame.ensures.target i) (c.as_slice.ensures i)) c.push_writes.ensures.pushes;
}

pub returns-clause-ready : goal.returns-clause-ready
returns-clause-ready c = c.rows.invariant.ready

pub returns-clause-pushes : goal.returns-clause-pushes
returns-clause-pushes c = rows_end (writes_at (context_of c.args.frame.now) c.args.clause.now.writes) _ c.in_default.ensures.steps.0 c.rows.invariant.leads
