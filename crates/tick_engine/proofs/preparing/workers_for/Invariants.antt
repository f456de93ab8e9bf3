use Rattle.std.proofs.Common.{◌≡◌, ◌+◌, length, vec_len}
use Rattle.std.specs.Prelude.{All}
use Rattle.effect_board.specs.Handles.{view_of, tasks_of, tags_of, IsSeatOf}
use Rattle.effect_board.specs.Views.{first_with}
use Rattle.task_board.specs.Working.{IsReady, IsLater}
use Rattle.task_scratch.specs.Scratch.{IsScratchFor}
use Rattle.tick_engine.proofs.preparing.workers_for.Given as goal

abbrev pub invariant-loop : goal.invariant-loop
invariant-loop l = record {
  of : IsSeatOf l.board l.first;
  first : view_of l.first ≡ first_with (tasks_of l.board) (tags_of l.board) (l.counter + 1);
  many : vec_len l.workers ≡ l.counter;
  ready : All (IsReady (IsScratchFor l.plan l.tags) (length l.plan.plan.nodes) l.board) l.workers.items;
  later : All IsLater l.workers.items;
}
