use Rattle.std.proofs.Common.{◌≡◌, ℕ, ◌+◌, ◌-◌, ◌*◌, ◌∙◌, nat_lt, min, List, [], ap, sym, subst, arith, length, take, drop, map, refl}
use Rattle.sgl_values.specs.World.{Row}
use Rattle.sgl_values.specs.declared.fault.Tag.{Tag}
use Rattle.sgl_typed.specs.Items.{start_with, task_rows}
use Rattle.tick_core.specs.Standing.{StandForItems}
use Rattle.battle_algebra.specs.Meaning.{reached, rows_items}
use Rattle.battle_algebra.specs.Plans.{tree_in}
use Rattle.battle_algebra.specs.Tree.{Tree, size}
use Rattle.battle_algebra.specs.declared.plan.Plan.{Plan}
use Rattle.battle_algebra.proofs.Shapes.{length-numbered}
use Rattle.effect_board.specs.Handles.{rows_of, tags_of}
use Rattle.task_scratch.specs.Job.{Job}
use Rattle.task_scratch.specs.Scratch.{AreWide}
use Rattle.plan_executor.specs.Counting.{Counted}
use Rattle.plan_executor.specs.PlanJob.{effect_tags, job_of, task_reach}
use Rattle.plan_executor.specs.Sinking.{Bounds, state_of}
use Rattle.plan_executor.proofs.Counts.{counted_all}
use Rattle.plan_executor.proofs.Ending.{holds_start}
use Rattle.plan_executor.proofs.PlanTrees.{IsTree, plan_tree}
use Rattle.plan_executor.proofs.Rooms.{one_width}
use Rattle.plan_executor.proofs.Stepping.{size-some}
use Rattle.plan_executor.proofs.TaskRows.{task_rows_are, length-reached}
use Rattle.plan_executor.proofs.plan_run.PlanRun.run_task.Goals as goal

pub run_rows-requires-clause-some : goal.run_rows-requires-clause-some
run_rows-requires-clause-some c =
    let plan = c.args.self.now.plan.now.plan in
    let tree : Tree = tree_in plan.nodes in
    let own : IsTree plan.nodes plan.slots tree = plan_tree plan.nodes plan.slots plan.shaped in
    let long : length c.as_slice.result.now ≡ size tree = ap length (c.as_slice.ensures ∙ ap (λ (p : Plan). p.nodes) c.plan.ensures.plan ∙ own.are) ∙ length-numbered tree 0 in
    omega (arith, long, size-some tree)

pub returns-clause-ran : goal.returns-clause-ran
returns-clause-ran c =
    let self = c.args.self.now in
    let script = self.script.now in
    let world = self.world.now.world in
    let seed : ℕ = self.seed in
    let plan = self.plan.now.plan in
    let job : Job = job_of script self.plan.now world seed c.args.limit in
    let task : ℕ = c.args.task in
    let tree : Tree = tree_in plan.nodes in
    let own : IsTree plan.nodes plan.slots tree = plan_tree plan.nodes plan.slots plan.shaped in
    let nodes : c.as_slice.result.now ≡ plan.nodes = c.as_slice.ensures ∙ ap (λ (p : Plan). p.nodes) c.plan.ensures.plan in
    let rows : take c.min-count.result (drop (task * 64) world.rows) ≡ task_rows world.rows task
    = task_rows_are world.rows task c.min-count.result (c.min-count.ensures ∙ ap (λ (n : ℕ). min (n - task * 64) 64) c.len-rows.ensures.value) in
    let counts : List ℕ = task_reach script self.plan.now world seed task in
    let bounds : Bounds = record { rows = rows_of c.args.board.now; tags = tags_of c.args.board.now; limit = c.args.limit } in
    let start = state_of c.begin.new.sink c.args.seat.now in
    let begins = c.begin.ensures.begins c.requires.scratch.empty in
    let pushes = c.run_rows.ensures.pushes tree plan.slots (nodes ∙ own.are) own.fits c.requires.scratch.wide in
    let holds = pushes.pushes start.items start.view [] (holds_start bounds start begins.least begins.over begins.empty) in
    let told = c.finish.ensures.ended start.items start.view _ holds in
    let ended = subst (λ (given : List Row). Rattle.plan_executor.specs.Sinking.Ended bounds start.items start.view (state_of c.finish.new.sink c.finish.new.seat) (rows_items tree plan.slots script given world seed)) rows told in
    let same : start.items ≡ c.args.scratch.now.sink.items = c.begin.ensures.items in
    record {
      gives = ended.gives;
      added = ended.added;
      runs = refl;
      sized = c.run_rows.ensures.long;
      over = ended.over ∙ ap (λ (n : ℕ). nat_lt c.args.limit (n + length (job.items task))) same;
      whole = λ within.
          let whole = ended.whole within in
          let counted = whole.counted in
          let less = c.saturating_sub.ensures in
          let reach = c.run_rows.ensures.reach (sym c.finish.ensures.over ∙ within) tree plan.slots (nodes ∙ own.are) own.fits c.requires.scratch.wide in
          let reach_rows : Counted counts (length plan.nodes) c.args.scratch.now.room.reach.items c.run_rows.new.room.reach.items
          = subst (λ (n : ℕ). Counted counts n c.args.scratch.now.room.reach.items c.run_rows.new.room.reach.items) (ap length nodes)
          (subst (λ (given : List Row). Counted (reached tree (map (start_with plan.slots script world seed) given)) (length c.as_slice.result.now) c.args.scratch.now.room.reach.items c.run_rows.new.room.reach.items) rows reach) in
          record {
            count = omega (arith, less, counted, same);
            counted = counted ∙ ap (λ (n : ℕ). n + length (job.items task)) same;
            reach = counted_all counts c.args.scratch.now.room.reach.items c.run_rows.new.room.reach.items (length plan.nodes) reach_rows c.requires.scratch.reach
                (length-reached tree (map (start_with plan.slots script world seed) (task_rows world.rows task)) ∙ sym (ap length own.are ∙ length-numbered tree 0));
            least = whole.least;
            fit = whole.fit;
            stand = subst (λ (n : ℕ). StandForItems n (effect_tags script) ended.gives (job.items task)) c.requires.rows
                (subst (λ (tags : List Tag). StandForItems bounds.rows tags ended.gives (job.items task)) c.requires.tags whole.stand);
          };
    }

pub run_rows-requires-clause-buffers : goal.run_rows-requires-clause-buffers
run_rows-requires-clause-buffers c =
    let old = c.requires.scratch in
    record {
      rows = old.rows;
      frame = subst (λ n. AreWide n c.args.scratch.now.room.rows) (sym old.frame) old.wide;
      args = old.args;
      arg_lanes = old.arg_lanes;
      amounts = old.amounts;
    }

pub returns-clause-scratch : goal.returns-clause-scratch
returns-clause-scratch c =
    let old = c.requires.scratch in
    let buffers = c.run_rows.ensures.buffers in
    let wide = c.run_rows.ensures.wide.is _ old.wide in
    record {
      masks = c.run_rows.ensures.sized ∙ ap length (c.as_slice.ensures ∙ ap (λ (p : Plan). p.nodes) c.plan.ensures.plan);
      rows = buffers.rows;
      wide = wide;
      frame = one_width _ _ (omega (arith, buffers.rows)) buffers.frame wide;
      args = buffers.args;
      arg_lanes = buffers.arg_lanes;
      amounts = buffers.amounts;
      reach = c.run_rows.ensures.long ∙ old.reach;
      tagged = c.finish.ensures.ready.tags ∙ c.requires.tags;
      empty = c.finish.ensures.empty;
    }
