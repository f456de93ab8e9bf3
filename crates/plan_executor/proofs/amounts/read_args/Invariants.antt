-- The arguments so far were read.
use Rattle.std.proofs.Common.{◌≡◌, length}
use Rattle.task_scratch.specs.Scratch.{slots_in}
use Rattle.plan_executor.specs.Clauses.{ReadFirst}
use Rattle.plan_executor.specs.Running.{base_of}
use Rattle.plan_executor.proofs.amounts.read_args.Given as goal

abbrev pub invariant-loop-number : goal.invariant-loop-number
invariant-loop-number l = record {
  long : length l.lanes.items ≡ length l.initial.lanes.items;
  read : ReadFirst (base_of l.run) (slots_in l.rows) l.args l.mask l.number l.lanes.items;
}
