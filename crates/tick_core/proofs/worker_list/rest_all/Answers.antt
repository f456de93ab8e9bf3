use Rattle.std.proofs.Common.{◌∙◌, ◌++◌, ◌<◌, ◌≤◌, length, set, map, ap, arith, append-nil}
use Rattle.std.proofs.lemmas.List.{take_all, drop_all}
use Rattle.std.proofs.lemmas.List.Edits.{map_over_more}
use Rattle.tick_core.specs.Events.{rested}
use Rattle.tick_core.proofs.worker_list.rest_all.Goals as goal

pub loop-place-preserved : goal.loop-place-preserved
loop-place-preserved c =
    let inside : c.loop-place.place < length c.args.workers.now.items = omega (arith, c.len-place-end.ensures, c.args.workers.now.ok) in
    ap (set c.loop-place.workers.items c.loop-place.place) c.rest_one.ensures
    ∙ map_over_more rested c.args.workers.now.items c.loop-place.workers.items c.loop-place.place c.index_mut.result.now inside c.loop-place.invariant c.index_mut.ensures.value

pub returns : goal.returns
returns c =
    let all : length c.args.workers.now.items ≤ c.loop-place.place = omega (arith, c.len-place-end.ensures, c.args.workers.now.ok) in
    c.loop-place.invariant
    ∙ (λ k. map rested (take_all c.loop-place.place c.args.workers.now.items all k) ++ drop_all c.loop-place.place c.args.workers.now.items all k)
    ∙ append-nil (map rested c.args.workers.now.items)
