use Rattle.std.proofs.Common.{◌≡◌, ◌++◌, map, take, drop}
use Rattle.tick_core.specs.Events.{rested}
use Rattle.tick_core.proofs.worker_list.rest_all.Given as goal

-- those so far have done nothing, and the others are as they were
abbrev pub invariant-loop-place : goal.invariant-loop-place
invariant-loop-place l = l.workers.items ≡ map rested (take l.place l.initial.workers.items) ++ drop l.place l.initial.workers.items
