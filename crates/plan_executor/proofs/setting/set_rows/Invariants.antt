use Rattle.std.proofs.Common.{◌≡◌, ℕ, length, slice_index_or}
use Rattle.battle_algebra.specs.Tree.{Source, node_of}
use Rattle.battle_algebra.specs.declared.plan.Node.TheVariants.{Empty}
use Rattle.plan_executor.specs.Below.{SetBelow}
use Rattle.task_scratch.specs.Scratch.{slots_in}
use Rattle.plan_executor.specs.Running.{base_of, KeepWidth}
use Rattle.plan_executor.proofs.setting.set_rows.Given as goal

abbrev pub invariant-loop-row : goal.invariant-loop-row
invariant-loop-row l = record {
  long : length l.rows ≡ 64;
  wide : KeepWidth l.initial.rows l.rows;
  frame : length l.frame ≡ length l.initial.frame;
  set : (source : Source) (child : ℕ) → slice_index_or l.run.nodes.now l.node Empty ≡ node_of l.slot source child
      → SetBelow (base_of l.run) l.slot source l.mask l.row (slots_in l.initial.rows) (slots_in l.rows);
}
