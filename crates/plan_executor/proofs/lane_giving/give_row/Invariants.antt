-- The writes so far were given.
use Rattle.std.proofs.Common.{map, drop}
use Rattle.sgl_typed.specs.Aggregate.{simple_value}
use Rattle.sgl_typed.specs.Items.{written}
use Rattle.sgl_typed.specs.Value.{Context}
use Rattle.plan_executor.specs.Clauses.{GiveNumbers}
use Rattle.plan_executor.specs.Sinking.{bounds_of, state_of, IsReady, Leads}
use Rattle.plan_executor.proofs.lane_giving.give_row.Given as goal

abbrev pub invariant-loop-number : goal.invariant-loop-number
invariant-loop-number l = record {
  ready : IsReady l.run.out.board.now l.seat l.sink.batch;
  leads : (c : Context) → GiveNumbers c l.target l.row l.writes l.amounts
      → Leads (bounds_of l.run.out) (state_of l.initial.sink l.initial.seat) (state_of l.sink l.seat)
      (map (λ write. written c l.target write (simple_value c write.amount)) (drop l.number l.writes))
      (map (λ write. written c l.target write (simple_value c write.amount)) l.writes);
}
