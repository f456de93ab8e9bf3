use Rattle.std.proofs.Common.{◌≡◌, drop}
use Rattle.sgl_values.specs.ItemOrder.{fault_cmp}
use Rattle.sgl_values.specs.Least.{least_of}
use Rattle.sgl_typed.specs.Tick.{assigned, faults_of, with_values}
use Rattle.tick_postprocess.specs.Unit.{context_of}
use Rattle.tick_postprocess.proofs.rules.assign.Given as goal

abbrev pub invariant-loop-at : goal.invariant-loop-at
invariant-loop-at l = record {
  values : l.values ≡ with_values (assigned (context_of l.unit) (drop l.at l.rules)) l.initial.values;
  least : l.least ≡ least_of fault_cmp (faults_of (assigned (context_of l.unit) (drop l.at l.rules)));
}
