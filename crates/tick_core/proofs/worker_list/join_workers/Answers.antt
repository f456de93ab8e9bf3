-- The worker that was taken out is given to another, or put back.
use Rattle.std.proofs.Common.{◌≡◌, ◌∙◌, List, get_or, set, sym, ap}
use Rattle.std.specs.Prelude.{Option, Some, None}
use Rattle.std.proofs.lemmas.List.{get_or_read}
use Rattle.tick_core.specs.Core.{Worker, work_of}
use Rattle.tick_core.specs.Events.{joined}
use Rattle.tick_core.proofs.Joining.{join-ok, join-err}
use Rattle.tick_core.proofs.Keeping.{alive_below}
use Rattle.tick_core.proofs.worker_list.join_workers.Goals as goal

pub returns-in-Ok-clause-ok : goal.returns-in-Ok-clause-ok
returns-in-Ok-clause-ok c =
    let hs = c.args.workers.now.items in
    let read : get_or hs c.args.from None ≡ Some c.in-Some.worker =
    sym (get_or_read hs c.args.from c.index_mut.result.now (alive_below hs c.args.from c.requires.from) c.index_mut.ensures.value None) ∙ sym c.in-Some.ensures.value in
    let after : List (Option Worker) → List (Option Worker) = λ rest. set rest c.args.into (Some (joined (work_of rest c.args.into) c.in-Some.worker)) in
    join-ok hs c.args.into c.args.from c.in-Some.worker read c.requires.apart c.take_over.new.workers.items
    (c.in-Ok.ensures.ok ∙ ap (λ (gone : Option Worker). after (set hs c.args.from gone)) c.in-Some.ensures.after)

pub returns-in-Err-clause-err : goal.returns-in-Err-clause-err
returns-in-Err-clause-err c =
    let hs = c.args.workers.now.items in
    let read : get_or hs c.args.from None ≡ Some c.in-Some.worker =
    sym (get_or_read hs c.args.from c.index_mut.result.now (alive_below hs c.args.from c.requires.from) c.index_mut.ensures.value None) ∙ sym c.in-Some.ensures.value in
    join-err hs c.args.into c.args.from c.in-Some.worker read c.requires.apart c.take_over.new.workers.items c.take_over.new.worker
    (c.in-Err.ensures.err ∙ ap (set hs c.args.from) c.in-Some.ensures.after) c.in-Err.ensures.kept
