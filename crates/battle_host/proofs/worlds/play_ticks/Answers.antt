use Rattle.std.proofs.Common.{◌≡◌, ◌∙◌, ◌+◌, ◌-◌, ◌++◌, [], ◌∷◌, refl, sym, ap, subst, arith, append-nil, Ok, Err, true, false}
use Rattle.std.proofs.Math.ListN.{length-append}
use Rattle.std.proofs.lemmas.Bool.{false≢true}
use Rattle.std.specs.Io.KnownBytes.{Appends}
use Rattle.sgl_outside.specs.Sinks.{AppendsPrefix}
use Rattle.sgl_typed.specs.declared.script.TScript.{TScript}
use Rattle.sgl_typed.specs.Tick.{tick, worlds}
use Rattle.battle_algebra.specs.declared.normal_plan.NormalPlan.{NormalPlan}
use Rattle.plan_translate.specs.Translation.{translation_slots}
use Rattle.tick_engine.specs.declared.settings.EngineSettings.{EngineSettings}
use Rattle.battle_watch.proofs.Stages.{shown_more}
use Rattle.battle_host.specs.Play.{IsNext, IsTurn, lines_of, reach_lines, run_end, shown_nodes, shown_text, worlds_text}
use Rattle.battle_host.proofs.Published.{all_more, all_shown, end_more, ended, ended_shown, first_cut, is_next, last_all, last_end, text_more, tick_more}
use Rattle.battle_host.proofs.worlds.play_ticks.Goals as goal

-- what is said of a turn's script, plan and settings, of those of the run
of_run : {s t : TScript} {p q : NormalPlan} {u v : EngineSettings} (P : TScript → NormalPlan → EngineSettings → Type 0) → s ≡ t → p ≡ q → u ≡ v → P s p u → P t q v
of_run {s} {t} {p} {q} {u} {v} P same plan set held = subst (λ x. P x q v) same (subst (λ y. P s y v) plan (subst (P s p) set held))

pub returns-in-Err : goal.returns-in-Err
returns-in-Err g c =
    let b = c.args.battle.now in
    let line = lines_of c.args.context.now.run.now.explain b in
    let cut = c.in-Err.ensures.cut in
    record {
      plays = (
        cut.0,
        subst (λ xs. AppendsPrefix (g.O.Sink.written c.args.out.now) (g.O.Sink.written c.show.new.out) (worlds_text c.args.context.now.run.now.summary b.script.schema line xs)) (sym c.requires.ready.all_are)
            (first_cut c.args.context.now.run.now.summary line b.script b.settings.seed b.settings.items (g.O.Sink.written c.args.out.now) (g.O.Sink.written c.show.new.out) b.world.world c.args.context.now.run.now.ticks cut.1),
      );
      later = c.in-Err.ensures.later;
      shown = λ told. absurd (false≢true told);
      kept = refl;
    }

pub loop-tick-init : goal.loop-tick-init
loop-tick-init g c =
    let b = c.args.battle.now in
    let line = lines_of c.args.context.now.run.now.explain b in
    let whole : c.args.context.now.run.now.ticks ≡ c.args.context.now.run.now.ticks - 0 = omega arith in
    record {
      done = [];
      same = refl;
      plan = refl;
      set = refl;
      all = subst (λ n. g.C.Course.worlds ≡ (worlds b.script b.world.world b.settings.seed b.settings.items n).worlds) whole c.requires.ready.all_are;
      counted = refl;
      end = ap (λ n. run_end (worlds b.script b.world.world b.settings.seed b.settings.items n)) (sym whole);
      wrote = subst (Appends (g.O.Sink.written c.args.out.now) (g.O.Sink.written c.show.new.out)) (sym (append-nil (shown_text c.args.context.now.run.now.summary b.script.schema b.world.world))) c.in_default.ensures.whole;
      later = c.in_default.ensures.later;
      numbered = c.requires.ready.first;
      shown = c.requires.ready.one;
    }

pub turn-requires-clause-entry : goal.turn-requires-clause-entry
turn-requires-clause-entry g c lifetimes outlive =
    let held = c.loop-tick.invariant in
    let b = c.args.battle.now in
    let line = lines_of c.args.context.now.run.now.explain b in
    of_run (λ s p u. IsNext g.C.Course.worlds c.loop-tick.stage (tick s c.loop-tick.battle.world.world u.seed u.items)) (sym held.same) (sym held.plan) (sym held.set)
    (is_next c.args.context.now.run.now.summary line b.script b.settings.seed b.settings.items g.C.Course.worlds held.done c.args.context.now.run.now.ticks c.loop-tick.tick c.args.stage.now c.loop-tick.stage c.loop-tick.battle.world.world (omega arith) held.counted held.shown held.all)

pub returns-in-Err-turn : goal.returns-in-Err-turn
returns-in-Err-turn g c =
    let held = c.loop-tick.invariant in
    let b = c.args.battle.now in
    let line = lines_of c.args.context.now.run.now.explain b in
    let end = run_end (worlds b.script b.world.world b.settings.seed b.settings.items c.args.context.now.run.now.ticks) in
    let table = c.loop-tick.battle.world in
    let turned = of_run (λ s p u. IsTurn (g.O.Sink.written c.loop-tick.out) (g.O.Sink.written c.turn.new.out) (g.O.Sink.faults c.loop-tick.out) (g.O.Sink.faults c.turn.new.out) c.args.context.now.run.now.summary s.schema (reach_lines (shown_nodes c.args.context.now.run.now.explain p.plan.nodes) s u.seed table.world) table
    (tick s table.world u.seed u.items) (Err c.in-Err-turn.status)) held.same held.plan held.set c.in-Err-turn.ensures.turn in
    record {
      plays = ended c.args.context.now.run.now.summary line b.script b.settings.seed b.settings.items (g.O.Sink.written c.args.out.now) (g.O.Sink.written c.loop-tick.out) (g.O.Sink.written c.turn.new.out)
          (g.O.Sink.faults c.args.out.now) (g.O.Sink.faults c.loop-tick.out) (g.O.Sink.faults c.turn.new.out) c.args.context.now.run.now.ticks c.loop-tick.tick table g.C.Course.worlds held.done
          end c.in-Err-turn.status (omega arith) held.later held.wrote held.all held.end turned;
      later = omega (arith, held.later, c.in-Err-turn.ensures.later);
      shown = λ told. c.in-Err-turn.ensures.shown
          ∙ ended_shown c.args.context.now.run.now.summary line b.script b.settings.seed b.settings.items (g.O.Sink.written c.args.out.now) (g.O.Sink.written c.loop-tick.out) (g.O.Sink.written c.turn.new.out)
          (g.O.Sink.faults c.args.out.now) (g.O.Sink.faults c.loop-tick.out) (g.O.Sink.faults c.turn.new.out) c.args.context.now.run.now.ticks c.loop-tick.tick table g.C.Course.worlds held.done
          end c.in-Err-turn.status c.args.stage.now c.loop-tick.stage (omega arith) held.all held.counted held.shown turned told;
      kept = c.in-Err-turn.ensures.script ∙ held.same;
    }

pub loop-tick-preserved : goal.loop-tick-preserved
loop-tick-preserved g c =
    let held = c.loop-tick.invariant in
    let b = c.args.battle.now in
    let line = lines_of c.args.context.now.run.now.explain b in
    let table = c.loop-tick.battle.world in
    let world = table.world in
    let after = c.turn.new.battle.world in
    let next = after.world in
    let turn = of_run (λ s p u. IsTurn (g.O.Sink.written c.loop-tick.out) (g.O.Sink.written c.turn.new.out) (g.O.Sink.faults c.loop-tick.out) (g.O.Sink.faults c.turn.new.out) c.args.context.now.run.now.summary s.schema (reach_lines (shown_nodes c.args.context.now.run.now.explain p.plan.nodes) s u.seed table.world) table
    (tick s world u.seed u.items) (Ok after)) held.same held.plan held.set c.in_default-turn.ensures.turn in
    record {
      done = held.done ++ world ∷ [];
      same = c.in_default-turn.ensures.script ∙ held.same;
      plan = c.in_default-turn.ensures.nodes ∙ held.plan;
      set = c.in_default-turn.ensures.settings ∙ held.set;
      all = all_more c.args.context.now.run.now.summary line b.script b.settings.seed b.settings.items g.C.Course.worlds held.done c.args.context.now.run.now.ticks c.loop-tick.tick world next (omega arith) turn.1 held.all;
      counted = length-append held.done (world ∷ []) ∙ ap (λ n. n + 1) held.counted;
      end = end_more c.args.context.now.run.now.summary line b.script b.settings.seed b.settings.items c.args.context.now.run.now.ticks c.loop-tick.tick world next
          (run_end (worlds b.script b.world.world b.settings.seed b.settings.items c.args.context.now.run.now.ticks)) (omega arith) turn.1 held.end;
      wrote = text_more c.args.context.now.run.now.summary line b.script b.settings.seed b.settings.items (g.O.Sink.written c.args.out.now) (g.O.Sink.written c.loop-tick.out) (g.O.Sink.written c.turn.new.out) held.done world next held.wrote turn.2;
      later = omega (arith, held.later, turn.0);
      numbered = tick_more b.script world b.settings.seed b.settings.items next turn.1 ∙ ap (λ n. n + 1) held.numbered;
      shown = shown_more (c.loop-tick.tick + 1) c.args.stage.now c.loop-tick.stage c.turn.new.stage held.shown c.in_default-turn.ensures.shown;
    }

pub returns : goal.returns
returns g c =
    let held = c.loop-tick.invariant in
    let b = c.args.battle.now in
    let line = lines_of c.args.context.now.run.now.explain b in
    let world = c.loop-tick.battle.world.world in
    let all = last_all c.args.context.now.run.now.summary line b.script b.settings.seed b.settings.items g.C.Course.worlds held.done c.args.context.now.run.now.ticks c.loop-tick.tick world (omega arith) held.all in
    record {
      plays = (
        subst (λ xs. Appends (g.O.Sink.written c.args.out.now) (g.O.Sink.written c.loop-tick.out) (worlds_text c.args.context.now.run.now.summary b.script.schema line xs)) (sym all) held.wrote,
        sym held.end ∙ last_end c.args.context.now.run.now.summary line b.script b.settings.seed b.settings.items c.args.context.now.run.now.ticks c.loop-tick.tick world (omega arith),
      );
      later = held.later;
      shown = λ told. all_shown c.args.context.now.run.now.summary line b.script b.settings.seed b.settings.items g.C.Course.worlds held.done c.loop-tick.tick world c.args.stage.now c.loop-tick.stage all held.counted held.shown;
      kept = held.same;
    }

pub turn-requires-clause-numbered : goal.turn-requires-clause-numbered
turn-requires-clause-numbered g c lifetimes outlive = c.loop-tick.invariant.numbered

pub turn-requires-clause-plan : goal.turn-requires-clause-plan
turn-requires-clause-plan g c lifetimes outlive =
    let held = c.loop-tick.invariant in
    of_run (λ s p u. (p.plan.slots ≡ translation_slots s) × (c.args.context.now.run.now.explain ≡ true → u.plain ≡ false)) (sym held.same) (sym held.plan) (sym held.set) c.requires.plan
