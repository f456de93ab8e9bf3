-- The slot of the rows is set in its column.
use Rattle.std.proofs.Common.{arith}
use Rattle.task_scratch.proofs.Columns.{long_as, lanes_set, lanes_set_past}
use Rattle.task_scratch.proofs.slot_rows.SlotRows.set_lanes.Goals as goal

pub returns-then-at-len-clause-set : goal.returns-then-at-len-clause-set
returns-then-at-len-clause-set c =
    lanes_set _ _ c.args.slot c.args.mask c.args.kind c.args.numbers.now c.set_lanes.new.self _ c.self.view_is
    c.index_mut.ensures.value c.set_lanes.ensures.inside c.set_lanes.ensures.outside

pub returns-then-at-len-clause-long : goal.returns-then-at-len-clause-long
returns-then-at-len-clause-long c = long_as _ _ _ c.self.view_is

pub returns-else-at-len-clause-set : goal.returns-else-at-len-clause-set
returns-else-at-len-clause-set c = lanes_set_past _ _ c.args.slot c.args.mask c.args.kind c.args.numbers.now c.self.view_is (omega arith)
