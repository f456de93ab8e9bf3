use Rattle.group_sweeps.specs.Faults.{ArePut}
use Rattle.group_sweeps.proofs.fault_list.put_each_fault.Given as goal

abbrev pub invariant-loop-row : goal.invariant-loop-row
invariant-loop-row l = ArePut l.asks l.row l.faults.items l.initial.found l.found
