use Rattle.std.proofs.Common.{◌<◌, length, All}
use Rattle.std.specs.Prelude.{flat_map}
use Rattle.sgl_evaluate.specs.Frame.{context_of}
use Rattle.index_set.specs.Targets.{passing_rows_rest}
use Rattle.plan_executor.specs.Sinking.{bounds_of, state_of, IsReady, Leads}
use Rattle.plan_executor.specs.Targets.{writes_at}
use Rattle.plan_executor.proofs.giving.give_rows.Given as goal

abbrev pub invariant-rows : goal.invariant-rows
invariant-rows l = record {
  ready : IsReady l.out.board.now l.seat l.sink.batch;
  inside : All (λ row. row < length l.frame.tick.world.now.world.rows) (passing_rows_rest l.rows);
  leads : Leads (bounds_of l.out) (state_of l.initial.sink l.initial.seat) (state_of l.sink l.seat)
      (flat_map (writes_at (context_of l.frame) l.clause.writes) (passing_rows_rest l.rows))
      (flat_map (writes_at (context_of l.frame) l.clause.writes) (passing_rows_rest l.initial.rows));
}

abbrev pub decreases-rows : goal.decreases-rows
decreases-rows l = length (passing_rows_rest l.rows)
