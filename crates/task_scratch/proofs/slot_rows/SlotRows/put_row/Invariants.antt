-- The values so far are the slots of the row.
use Rattle.std.proofs.Common.{◌≡◌, ◌<◌, ℕ, pos, length, slice_index_or}
use Rattle.sgl_values.specs.declared.fault.Val.TheVariants.{N}
use Rattle.task_scratch.specs.Scratch.{slots_in}
use Rattle.task_scratch.proofs.slot_rows.SlotRows.put_row.Given as goal

abbrev pub invariant-loop-slot : goal.invariant-loop-slot
invariant-loop-slot l = record {
  long : length l.values ≡ length l.self-inside.columns.items;
  done : (k : ℕ) → k < l.slot → slice_index_or l.values k (N (pos 0)) ≡ slice_index_or (slots_in l.self l.row) k (N (pos 0));
}
