use Rattle.std.proofs.Common.{◌≡◌, ◌∙◌, ◌++◌, [], ap, arith, length, take, drop, subst}
use Rattle.plan_executor.specs.Counting.{Counted}
use Rattle.std.proofs.lemmas.List.{get_or-set_same}
use Rattle.battle_algebra.specs.Meaning.{rows_items, reached}
use Rattle.plan_executor.specs.Frames.{frames, members, mask_at}
use Rattle.task_scratch.specs.Scratch.{slots_in}
use Rattle.plan_executor.specs.Running.{base_of}
use Rattle.plan_executor.proofs.Insides.{inside_empty, inside_first, inside_set}
use Rattle.plan_executor.proofs.Starting.{task_starts, task_reach}
use Rattle.plan_executor.proofs.task.run_rows.Goals as goal

pub run_nodes-requires-clause-inside : goal.run_nodes-requires-clause-inside
run_nodes-requires-clause-inside c =
    let run = c.args.run.now in
    inside_set run c.clear.new.masks.items c.put.new.masks.items 0 c.first_lanes.result c.put.ensures.small (inside_empty run c.clear.new.masks.items c.clear.ensures.empty)
    (inside_first run c.args.count c.first_lanes.result c.first_lanes.ensures c.requires.count c.requires.within) c.put.ensures.set

pub returns-clause-pushes : goal.returns-clause-pushes
returns-clause-pushes c = λ tree width are fits wide.
    let run = c.args.run.now in
    let rows = c.args.room.now.rows in
    let masks = c.put.new.masks.items in
    let root : mask_at masks 0 ≡ c.first_lanes.result
    = ap (λ ms. mask_at ms 0) c.put.ensures.set ∙ get_or-set_same c.clear.new.masks.items 0 c.first_lanes.result 0 (omega (arith, c.clear.ensures.sized, c.requires.sized, c.requires.some)) in
    c.run_nodes.ensures.pushes (rows_items tree width run.tick.script.now (take c.args.count (drop run.first run.tick.world.now.world.rows)) run.tick.world.now.world run.tick.seed)
    (reached tree (frames (base_of run) (slots_in rows) (members (mask_at masks 0))) ++ [])
    (task_starts run rows width c.args.count c.first_lanes.result masks tree c.requires.buffers.rows wide c.requires.count c.requires.within c.first_lanes.ensures root are fits)

pub returns-clause-reach : goal.returns-clause-reach
returns-clause-reach c = λ over tree width are fits wide.
    let run = c.args.run.now in
    let rows = c.args.room.now.rows in
    let masks = c.put.new.masks.items in
    let root : mask_at masks 0 ≡ c.first_lanes.result
    = ap (λ ms. mask_at ms 0) c.put.ensures.set ∙ get_or-set_same c.clear.new.masks.items 0 c.first_lanes.result 0 (omega (arith, c.clear.ensures.sized, c.requires.sized, c.requires.some)) in
    subst (λ counts. Counted counts (length run.nodes.now) c.args.room.now.reach.items c.run_nodes.new.room.reach.items)
    (task_reach run rows width c.args.count c.first_lanes.result masks tree c.requires.buffers.rows wide c.requires.count c.requires.within c.first_lanes.ensures root fits)
    (c.run_nodes.ensures.reach over (rows_items tree width run.tick.script.now (take c.args.count (drop run.first run.tick.world.now.world.rows)) run.tick.world.now.world run.tick.seed)
    (reached tree (frames (base_of run) (slots_in rows) (members (mask_at masks 0))) ++ [])
    (task_starts run rows width c.args.count c.first_lanes.result masks tree c.requires.buffers.rows wide c.requires.count c.requires.within c.first_lanes.ensures root are fits))
