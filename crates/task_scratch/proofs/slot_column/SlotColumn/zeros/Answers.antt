-- No row is in an empty set.
use Rattle.std.proofs.Common.{replicate}
use Rattle.task_scratch.specs.Columns.{fault_past}
use Rattle.task_scratch.proofs.Columns.{zero_in}
use Rattle.task_scratch.proofs.slot_column.SlotColumn.zeros.Goals as goal

pub returns : goal.returns
returns c k = zero_in (replicate 64 fault_past) k c.zero.result c.zero.ensures
