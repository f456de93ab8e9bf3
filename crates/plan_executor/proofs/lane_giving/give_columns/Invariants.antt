-- The writes so far have given in all lanes.
use Rattle.std.proofs.Common.{◌≡◌, ◌+◌, ◌*◌, ◌-◌, ◌≤◌, drop, false, length}
use Rattle.plan_executor.specs.Clauses.{aims_of, columns}
use Rattle.plan_executor.specs.Sinking.{bounds_of, state_of, IsReady, Leads}
use Rattle.plan_executor.proofs.lane_giving.give_columns.Given as goal

abbrev pub invariant-loop-number : goal.invariant-loop-number
invariant-loop-number l = record {
  ready : IsReady l.run.out.board.now l.seat l.sink.batch;
  fresh : l.sink.over ≡ false;
  room : l.sink.items + 64 * (length l.writes - l.number) ≤ l.run.out.limit;
  leads : Leads (bounds_of l.run.out) (state_of l.initial.sink l.initial.seat) (state_of l.sink l.seat) (columns (aims_of l.aimed l.targets) (drop l.number l.writes) (drop l.number l.amounts)) (columns (aims_of l.aimed l.targets) l.writes l.amounts);
}
