-- A slot is the value in its column.
use Rattle.std.proofs.Common.{ap, ◌∙◌, arith}
use Rattle.sgl_values.specs.declared.fault.Val.TheVariants.{N}
use Rattle.task_scratch.proofs.Columns.{slot_is, slot_past}
use Rattle.task_scratch.proofs.slot_rows.SlotRows.value.Goals as goal

pub returns-then-at-len : goal.returns-then-at-len
returns-then-at-len c = c.value.ensures ∙ slot_is _ _ c.args.row c.args.slot _ c.self.view_is c.requires (omega arith) c.index.ensures

pub returns-else-at-len : goal.returns-else-at-len
returns-else-at-len c = ap N c.zero.ensures ∙ slot_past _ _ c.args.row c.args.slot c.self.view_is (omega arith)
