-- The events of a core.
use Rattle.std.specs.Prelude.{ℕ, ◌+◌, ◌==◌, ◌&&◌, not, nat_lt, Bool, true, if◌then◌else◌, [], ◌∷◌, ◌++◌, length, map, Option, Some, None, slice_index, slice_set}
use Rattle.effect_combine.specs.Words.{merged}
use Rattle.tick_core.specs.Core.{Core, Worker, idle, work_of, lives, tag_of, start_words}
use Rattle.tick_core.specs.declared.event.Deed.{Deed}
use Rattle.tick_core.specs.declared.event.Deed.TheVariants as did
use Rattle.tick_core.specs.declared.event.Give.{Give}
use Rattle.tick_core.specs.declared.event.CoreEvent.{CoreEvent}
use Rattle.tick_core.specs.declared.event.CoreEvent.TheVariants.{Claim, Give as Gives, Split, Join, Turn}

-- its workers live, its word there is, and it joins no worker into itself
abbrev pub is_allowed : CoreEvent → Core → Bool
is_allowed (Claim worker) core = lives core.workers worker
is_allowed (Gives worker word amount) core = lives core.workers worker && nat_lt word (length core.words)
is_allowed (Split worker) core = lives core.workers worker
is_allowed (Join into from) core = lives core.workers into && (lives core.workers from && not (into == from))
is_allowed Turn core = true

abbrev pub with_task : Worker → ℕ → Worker
with_task worker task = record { claimed = worker.claimed ++ task ∷ []; gives = worker.gives }

abbrev pub with_give : Worker → Give → Worker
with_give worker give = record { claimed = worker.claimed; gives = worker.gives ++ give ∷ [] }

-- what a worker did, with one thing more
abbrev pub with_deed : Worker → Deed → Worker
with_deed worker (did.Claim task) = with_task worker task
with_deed worker (did.Give give) = with_give worker give

abbrev pub joined : Worker → Worker → Worker
joined into from = record { claimed = into.claimed ++ from.claimed; gives = into.gives ++ from.gives }

-- one that lives has done nothing
abbrev pub rested : Option Worker → Option Worker
rested None = None
rested (Some worker) = Some idle

-- the state behind an event
abbrev pub after : CoreEvent → Core → Core
after (Claim worker) core =
    if nat_lt core.next core.tasks then record core {
      next = core.next + 1;
      workers = slice_set core.workers worker (Some (with_task (work_of core.workers worker) core.next));
    } else core
after (Gives worker word amount) core = record core {
  words = slice_set core.words word (merged (tag_of core.tags word) (slice_index core.words word) amount);
  workers = slice_set core.workers worker (Some (with_give (work_of core.workers worker) record { word = word; amount = amount }));
}
after (Split worker) core = record core { workers = core.workers ++ Some idle ∷ [] }
after (Join into from) core = record core {
  workers = slice_set (slice_set core.workers into (Some (joined (work_of core.workers into) (work_of core.workers from)))) from None;
}
after Turn core = record core { next = 0; words = start_words core.rows core.tags; workers = map rested core.workers }

-- what an event answers: the task claimed, where one was left, and the number of a worker that is split off
abbrev pub answer_of : CoreEvent → Core → Option ℕ
answer_of (Claim worker) core = if nat_lt core.next core.tasks then Some core.next else None
answer_of (Gives worker word amount) core = None
answer_of (Split worker) core = Some (length core.workers)
answer_of (Join into from) core = None
answer_of Turn core = None
