-- Columns make 64 rows, with as many slots as there are columns.
use Rattle.std.proofs.Common.{arith}
use Rattle.task_scratch.proofs.Columns.{length-rows_in, are_wide}
use Rattle.task_scratch.proofs.slot_rows.SlotRows.resize.Goals as goal

pub returns-clause-rows : goal.returns-clause-rows
returns-clause-rows c = length-rows_in _

pub returns-clause-wide : goal.returns-clause-wide
returns-clause-wide c = are_wide _ _ (omega (arith, c.in_ok-resize.ensures.len))
