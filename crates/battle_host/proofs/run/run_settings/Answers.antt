use Rattle.std.proofs.Common.{rules, ◌≡◌, ◌∙◌, ◌&&◌, Bool, true, false, not, Some, ap, refl, subst, sym}
use Rattle.std.proofs.KnownBytes.{Keeps-refl}
use Rattle.plan_translate.specs.Translation.{translation_slots}
use Rattle.battle_words.specs.Words.{settings}
use Rattle.battle_host.specs.Explain.{IsPlanOf, PlaysOf}
use Rattle.battle_host.specs.Run.{Ends}
use Rattle.battle_host.proofs.Plans.{plan_of}
use Rattle.battle_host.proofs.Runs.{memory_ends, played_by, refused_ends}
use Rattle.battle_host.proofs.run.run_settings.Goals as goal

pub run_engine-requires-clause-plan : goal.run_engine-requires-clause-plan
run_engine-requires-clause-plan g c lifetimes outlive =
    let compiled = c.in-Ok.field-0.compiled in
    let made = c.in-Ok-new.ensures in
    let plan = c.in-Ok-new.battle.plan.plan in
    subst (λ s. IsPlanOf s plan.nodes) (sym made.script)
    (plan_of compiled.script compiled.plan.nodes plan.nodes compiled.plan.slots plan.slots compiled.nodes compiled.slots made.slots plan.shaped made.plan)

pub run_engine-requires-clause-begun : goal.run_engine-requires-clause-begun
run_engine-requires-clause-begun g c lifetimes outlive =
    let compiled = c.in-Ok.field-0.compiled in
    let made = c.in-Ok-new.ensures in
    let run = c.args.context.now.run.now in
    let plain : c.in-Ok-new.battle.settings.plain ≡ (run.plain && not run.explain) = ap (λ s. s.plain) (made.settings ∙ c.engine_of.ensures) in
    record {
      within = c.requires;
      written_out = search rules;
      width = search rules;
      first = search rules;
      seed = search rules;
      items = search rules;
      planned = (made.slots ∙ (compiled.slots ∙ ap translation_slots (sym made.script)), λ asked. plain ∙ (ap (λ e. run.plain && not e) asked ∙ and_false run.plain));
    }
  where
    and_false : (b : Bool) → (b && false) ≡ false
    and_false false = refl
    and_false true = refl

pub returns-in-Ok-new : goal.returns-in-Ok-new
returns-in-Ok-new g c =
    let s = settings c.args.context.now.run.now in
    let opened = c.in-Ok.field-0 in
    let script = opened.compiled.script in
    let made = c.in-Ok-new.ensures in
    let held = g.F.Folder.held c.args.files.now in
    let faults = g.F.Folder.faults c.args.files.now in
    let later = g.F.Folder.faults c.start_battle.new.folder in
    let old = g.O.Sink.written c.args.out.now in
    let new = g.O.Sink.written c.run_engine.new.out in
    let before = g.O.Sink.faults c.args.out.now in
    let now = g.O.Sink.faults c.run_engine.new.out in
    let end = c.run_engine.result.status in
    let played : PlaysOf old new before now s script opened.world end =
    subst (λ t. PlaysOf old new before now s script t end) made.world
    (subst (λ x. PlaysOf old new before now s x c.in-Ok-new.battle.world end) made.script c.run_engine.ensures.played) in
    subst (λ names. Ends (Some s) held faults later old new before now names end) (sym (c.run_engine.ensures.schema ∙ ap (λ x. x.schema) made.script))
    (played_by s script opened.world played.0 played.1 played.2 played.3 faults later old new before now held end c.in-Ok.ensures.script c.in-Ok.ensures.units played.4)

pub returns-in-Err-new : goal.returns-in-Err-new
returns-in-Err-new g c =
    let s = settings c.args.context.now.run.now in
    let held = g.F.Folder.held c.args.files.now in
    let faults = g.F.Folder.faults c.args.files.now in
    let later = g.F.Folder.faults c.start_battle.new.folder in
    let old = g.O.Sink.written c.args.out.now in
    let count = g.O.Sink.faults c.args.out.now in
    subst (Ends (Some s) held faults later old old count count c.unread.result.schema) (sym c.unread.ensures.status)
    (memory_ends (Some s) held faults later old count c.unread.result.schema (Keeps-refl old))

pub returns-in-Err : goal.returns-in-Err
returns-in-Err g c =
    refused_ends (settings c.args.context.now.run.now) (g.F.Folder.faults c.args.files.now) (g.F.Folder.faults c.start_battle.new.folder) (g.O.Sink.written c.args.out.now) (g.O.Sink.faults c.args.out.now)
    (g.F.Folder.held c.args.files.now) c.in-Err.ended.schema c.in-Err.ended.status (Keeps-refl (g.O.Sink.written c.args.out.now)) c.in-Err.ensures.refused
