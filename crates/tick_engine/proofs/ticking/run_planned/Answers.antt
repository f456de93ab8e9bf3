use Rattle.std.specs.Prelude.{length}
use Rattle.task_board.proofs.Workers.{done_of}
use Rattle.task_scratch.specs.Scratch.{IsScratchFor}
use Rattle.tick_postprocess.specs.Answer.{tags_of}
use Rattle.plan_executor.specs.PlanJob.{job_of}
use Rattle.tick_engine.proofs.LeftWorkers.{left_done}
use Rattle.tick_engine.proofs.ticking.run_planned.Goals as goal

pub finish_tick-ended-requires-clause-workers : goal.finish_tick-ended-requires-clause-workers
finish_tick-ended-requires-clause-workers g c κs within =
    let script = c.args.script.now in
    let plan = c.args.plan.now in
    let job = job_of script plan c.args.world.now.world c.args.settings.seed c.args.settings.items in
    let board = c.args.prepared.board in
    left_done job board c.work_all-workers.result.items c.leave_rooms-workers.result.items c.leave_rooms-workers.ensures
    (done_of job (IsScratchFor plan (tags_of script.schema.effects)) (length plan.plan.nodes) board c.args.prepared.workers.items c.work_all-workers.result.items
    c.requires.prepared.workers (record { long = c.work_all-workers.ensures.long; same = c.work_all-workers.ensures.same }) c.work_all-workers.ensures.done)
