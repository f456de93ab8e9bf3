-- The least fault is least, by the lemmas.
use Rattle.sgl_values.specs.ItemOrder.{item_fault_cmp}
use Rattle.sgl_values.proofs.LeastLaws.{item_fault_total, least_is, least_none}
use Rattle.sgl_values.proofs.law.item_faults_have_a_least.Goals as goal

pub returns : goal.returns
returns c = record { least = least_is item_fault_cmp item_fault_total; none = least_none item_fault_cmp }
