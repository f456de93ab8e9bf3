-- Each value is the slot in its column.
use Rattle.std.proofs.Common.{◌≢◌, pos, arith, below_more, sym, ◌∙◌}
use Rattle.std.proofs.lemmas.List.{ext_get_or, get_or-set_other, get_or-set_same, length-set}
use Rattle.sgl_values.specs.declared.fault.Val.TheVariants.{N}
use Rattle.task_scratch.proofs.Columns.{row_long, slot_is}
use Rattle.task_scratch.proofs.slot_rows.SlotRows.put_row.Goals as goal

pub loop-slot-init : goal.loop-slot-init
loop-slot-init c = record {
  long = c.requires.long ∙ row_long _ _ c.args.row c.self.view_is c.requires.row;
  done = λ k none. absurd (omega arith);
}

pub loop-slot-preserved : goal.loop-slot-preserved
loop-slot-preserved c = record {
  long = length-set _ _ _ ∙ c.loop-slot.invariant.long;
  done = below_more _ _
      (λ k h. let apart : k ≢ c.loop-slot.slot = omega arith in rw get_or-set_other (c.loop-slot.invariant.done k h))
      (get_or-set_same c.loop-slot.values c.loop-slot.slot c.value.result (N (pos 0)) (omega arith) ∙ c.value.ensures
      ∙ slot_is _ _ c.args.row c.loop-slot.slot _ c.self.view_is c.requires.row (omega arith) c.index.ensures);
}

pub returns : goal.returns
returns c = ext_get_or (N (pos 0)) _ _ (c.loop-slot.invariant.long ∙ sym (row_long _ _ c.args.row c.self.view_is c.requires.row))
    (λ k h. c.loop-slot.invariant.done k (omega arith))
