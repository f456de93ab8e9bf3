use Rattle.std.proofs.Common.{◌≡◌, drop}
use Rattle.sgl_values.specs.ItemOrder.{item_fault_cmp}
use Rattle.sgl_values.specs.Least.{least_of}
use Rattle.sgl_typed.specs.Tick.{item_faults}
use Rattle.tick_engine.proofs.plain.least_fault.Given as goal

abbrev pub invariant-loop-at : goal.invariant-loop-at
invariant-loop-at l = l.least ≡ least_of item_fault_cmp (item_faults (drop l.at l.items))
