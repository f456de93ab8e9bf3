use Rattle.std.proofs.Common.{List, length, subst, sym}
use Rattle.sgl_values.specs.declared.fault.Fault.{Fault}
use Rattle.group_sweeps.specs.Faults.{ArePut}
use Rattle.group_sweeps.proofs.Faulting.{none_put}
use Rattle.group_sweeps.proofs.fault_list.put_faults.Goals as goal

pub returns-then-are_without_fault : goal.returns-then-are_without_fault
returns-then-are_without_fault g c =
    let asks = c.args.asks.now in
    let found = c.args.found.now in
    subst (λ (faults : List Fault). ArePut asks (length asks) faults found found) (sym c.new.ensures.items)
    (none_put asks found (c.are_without_fault.ensures c.if-are_without_fault.true))
