-- The slot of the row is set in its column.
use Rattle.std.proofs.Common.{arith}
use Rattle.task_scratch.proofs.Columns.{long_as, row_set, row_set_past}
use Rattle.task_scratch.proofs.slot_rows.SlotRows.set.Goals as goal

pub returns-then-at-len-clause-set : goal.returns-then-at-len-clause-set
returns-then-at-len-clause-set c =
    row_set _ _ c.args.row c.args.slot c.args.value c.set.new.self _ c.self.view_is c.requires
    c.index_mut.ensures.value c.set.ensures.same c.set.ensures.other

pub returns-then-at-len-clause-long : goal.returns-then-at-len-clause-long
returns-then-at-len-clause-long c = long_as _ _ _ c.self.view_is

pub returns-else-at-len-clause-set : goal.returns-else-at-len-clause-set
returns-else-at-len-clause-set c = row_set_past _ _ c.args.row c.args.slot c.args.value c.self.view_is (omega arith)
