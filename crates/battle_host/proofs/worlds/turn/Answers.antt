use Rattle.std.proofs.Common.{◌≡◌, ◌∙◌, ◌++◌, [], ℕ, Bool, true, Err, append-nil, ap, subst, sym}
use Rattle.std.specs.Io.KnownBytes.{Appends}
use Rattle.sgl_outside.specs.Sinks.{AppendsPrefix}
use Rattle.sgl_outside.proofs.Writes.{prefix_whole}
use Rattle.plan_translate.specs.Translation.{translation_slots}
use Rattle.tick_engine.specs.Jobs.{AreReached}
use Rattle.tick_engine.specs.State.{State}
use Rattle.sgl_typed.specs.Tick.{tick}
use Rattle.battle_host.specs.Play.{IsTurn, behind_text, lines_of, shown_text, told_reach}
use Rattle.battle_host.proofs.Published.{turn_refused, turn_unshown}
use Rattle.battle_host.proofs.Reaching.{reach_told}
use Rattle.battle_host.proofs.worlds.turn.Goals as goal

-- the text behind a tick that was run, by the state that it left
text_told : (asked summary : Bool) (at : ℕ) (b after : State) → b.plan.plan.slots ≡ translation_slots b.script → b.world.world.tick ≡ at
    → (asked ≡ true → AreReached b.script b.plan b.world.world b.settings.seed after.reached) → after.script ≡ b.script → after.plan ≡ b.plan
    → told_reach asked at after.plan.plan.nodes after.reached ++ shown_text summary after.script.schema after.world.world
    ≡ lines_of asked b b.world.world ++ shown_text summary b.script.schema after.world.world
text_told asked summary at b after slots numbered are script plan =
    ap (λ s. told_reach asked at after.plan.plan.nodes after.reached ++ shown_text summary s.schema after.world.world) script
    ∙ (ap (λ p. told_reach asked at p.plan.nodes after.reached ++ shown_text summary b.script.schema after.world.world) plan
    ∙ ap (λ t. t ++ shown_text summary b.script.schema after.world.world) (reach_told asked at b.script b.plan b.world.world b.settings.seed after.reached slots numbered are))

pub returns-in-Err-clause-turn : goal.returns-in-Err-clause-turn
returns-in-Err-clause-turn g c =
    let b = c.args.battle.now in
    let old = g.O.Sink.written c.args.out.now in
    let count = g.O.Sink.faults c.args.out.now in
    let ticked = tick b.script b.world.world b.settings.seed b.settings.items in
    let line = lines_of c.args.context.now.run.now.explain b b.world.world in
    subst (λ s. IsTurn old old count count c.args.context.now.run.now.summary b.script.schema line b.world ticked (Err s)) (sym c.status_of.ensures)
    (turn_refused old count c.args.context.now.run.now.summary b.script.schema line b.world ticked c.args.at (sym c.requires.numbered) c.in-Err.fault c.in-Err.ensures.fault)

pub returns-in-Err-show_tick-clause-turn : goal.returns-in-Err-show_tick-clause-turn
returns-in-Err-show_tick-clause-turn g c =
    let b = c.args.battle.now in
    let after = c.run_tick.new.self in
    let ran = c.in_default.ensures in
    turn_unshown (g.O.Sink.written c.args.out.now) (g.O.Sink.written c.show_tick.new.out) (g.O.Sink.faults c.args.out.now) (g.O.Sink.faults c.show_tick.new.out)
    c.args.context.now.run.now.summary b.script.schema (lines_of c.args.context.now.run.now.explain b b.world.world)
    (told_reach c.args.context.now.run.now.explain c.args.at after.plan.plan.nodes after.reached ++ shown_text c.args.context.now.run.now.summary after.script.schema after.world.world)
    b.world (tick b.script b.world.world b.settings.seed b.settings.items) after.world.world ran.next
    (text_told c.args.context.now.run.now.explain c.args.context.now.run.now.summary c.args.at b after c.requires.plan.0 c.requires.numbered (λ asked. ran.reach (c.requires.plan.1 asked)) ran.script.0 ran.script.1)
    c.in-Err-show_tick.status c.in-Err-show_tick.ensures

pub returns-in-Ok-clause-turn : goal.returns-in-Ok-clause-turn
returns-in-Ok-clause-turn g c =
    let b = c.args.battle.now in
    let after = c.run_tick.new.self in
    let ran = c.in_default.ensures in
    let shown = c.in_default-show_tick.ensures in (
      shown.0,
      ran.next,
      subst (Appends (g.O.Sink.written c.args.out.now) (g.O.Sink.written c.show_tick.new.out))
          (text_told c.args.context.now.run.now.explain c.args.context.now.run.now.summary c.args.at b after c.requires.plan.0 c.requires.numbered (λ asked. ran.reach (c.requires.plan.1 asked)) ran.script.0 ran.script.1) shown.1,
      ran.width,
    )

pub returns-in-Err-publish_world-clause-turn : goal.returns-in-Err-publish_world-clause-turn
returns-in-Err-publish_world-clause-turn g c =
    let b = c.args.battle.now in
    let after = c.run_tick.new.self in
    let ran = c.in_default.ensures in
    let shown = c.in_default-show_tick.ensures in
    let old = g.O.Sink.written c.args.out.now in
    let new = g.O.Sink.written c.show_tick.new.out in
    let line = lines_of c.args.context.now.run.now.explain b b.world.world in
    let text = told_reach c.args.context.now.run.now.explain c.args.at after.plan.plan.nodes after.reached ++ shown_text c.args.context.now.run.now.summary after.script.schema after.world.world in
    subst (AppendsPrefix old new)
    (text_told c.args.context.now.run.now.explain c.args.context.now.run.now.summary c.args.at b after c.requires.plan.0 c.requires.numbered (λ asked. ran.reach (c.requires.plan.1 asked)) ran.script.0 ran.script.1
    ∙ sym (ap (behind_text c.args.context.now.run.now.summary b.script.schema line) ran.next))
    (subst (AppendsPrefix old new) (append-nil text) (prefix_whole old new text [] shown.1))
