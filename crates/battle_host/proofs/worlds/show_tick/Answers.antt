use Rattle.battle_host.specs.Play.{shown_text, told_reach}
use Rattle.battle_host.proofs.Published.{shown_front, shown_then}
use Rattle.battle_host.specs.declared.status.Status.TheVariants as status
use Rattle.std.proofs.Common.{Err}
use Rattle.battle_host.proofs.worlds.show_tick.Goals as goal

pub returns-in-Err : goal.returns-in-Err
returns-in-Err g c =
    let b = c.args.battle.now in
    shown_front (g.O.Sink.written c.args.out.now) (g.O.Sink.written c.explain_tick.new.out) (g.O.Sink.faults c.args.out.now) (g.O.Sink.faults c.explain_tick.new.out)
    (told_reach c.args.context.now.run.now.explain c.args.at b.plan.plan.nodes b.reached) (shown_text c.args.context.now.run.now.summary b.script.schema b.world.world) c.in-Err.status c.in-Err.ensures

pub returns-in-Err-show : goal.returns-in-Err-show
returns-in-Err-show g c =
    let b = c.args.battle.now in
    let wrote = c.in-Err-show.ensures in
    shown_then (g.O.Sink.written c.args.out.now) (g.O.Sink.written c.explain_tick.new.out) (g.O.Sink.written c.show.new.out)
    (g.O.Sink.faults c.args.out.now) (g.O.Sink.faults c.explain_tick.new.out) (g.O.Sink.faults c.show.new.out)
    (told_reach c.args.context.now.run.now.explain c.args.at b.plan.plan.nodes b.reached) (shown_text c.args.context.now.run.now.summary b.script.schema b.world.world) tt (Err status.WriteFault)
    c.in_default.ensures (wrote.later, wrote.cut.0, wrote.cut.1)
