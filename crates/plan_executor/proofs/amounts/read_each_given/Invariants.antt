-- The arguments so far were read.
use Rattle.std.proofs.Common.{◌≡◌, ◌<◌, ℕ, true, length, slice_index_or}
use Rattle.sgl_typed.specs.declared.script.TWrite.{TWrite}
use Rattle.sgl_lanes.specs.Lanes.{has}
use Rattle.task_scratch.specs.Scratch.{slots_in}
use Rattle.plan_executor.specs.Clauses.{lanes_at, values_of, with_target, GivesNumber}
use Rattle.plan_executor.specs.Frames.{with_slots}
use Rattle.plan_executor.specs.Running.{base_of}
use Rattle.plan_executor.proofs.amounts.read_each_given.Given as goal

abbrev pub invariant-loop-number : goal.invariant-loop-number
invariant-loop-number l = record {
  long : length l.amounts.items ≡ length l.initial.amounts.items;
  read : (i k target : ℕ) (write : TWrite) → i < l.number → has l.mask k ≡ true
      → GivesNumber (with_target l.run.tick.world.now.world (with_slots (base_of l.run) (values_of (base_of l.run) (slots_in l.rows) l.args) k) target) target k
      (slice_index_or l.writes i write) (lanes_at l.amounts.items i);
}
