-- The rows so far have given.
use Rattle.std.proofs.Common.{ℕ}
use Rattle.std.specs.Prelude.{flat_map}
use Rattle.battle_algebra.specs.Meaning.{effects}
use Rattle.battle_algebra.specs.declared.plan.EffectUse.{EffectUse}
use Rattle.plan_executor.specs.Below.{rest_rows}
use Rattle.plan_executor.specs.Clauses.{aims_of, GiveBy}
use Rattle.plan_executor.specs.Frames.{frames, members, Slots}
use Rattle.plan_executor.specs.Running.{base_of, IsInside}
use Rattle.plan_executor.specs.Sinking.{bounds_of, state_of, IsReady, Leads}
use Rattle.plan_executor.proofs.lane_giving.give_each.Given as goal

abbrev pub invariant-loop-row : goal.invariant-loop-row
invariant-loop-row l = record {
  ready : IsReady l.run.out.board.now l.seat l.sink.batch;
  leads : (slots : Slots) (act : EffectUse) (mask : ℕ) → IsInside l.run mask → GiveBy l.run slots act mask l.writes (aims_of l.aimed l.targets) l.amounts
      → Leads (bounds_of l.run.out) (state_of l.initial.sink l.initial.seat) (state_of l.sink l.seat)
      (flat_map (effects act) (frames (base_of l.run) slots (rest_rows mask l.row)))
      (flat_map (effects act) (frames (base_of l.run) slots (members mask)));
}
