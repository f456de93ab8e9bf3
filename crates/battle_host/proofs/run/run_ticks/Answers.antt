use Rattle.battle_words.specs.Words.{settings}
use Rattle.battle_host.specs.Play.{shown_nodes}
use Rattle.battle_host.proofs.Explained.{plays_none, plays_on}
use Rattle.battle_host.proofs.Plans.{explains_shown}
use Rattle.battle_host.proofs.run.run_ticks.Goals as goal

pub returns-in-Ok-clause-played : goal.returns-in-Ok-clause-played
returns-in-Ok-clause-played g c =
    let b = c.args.battle.now in
    let asked = c.args.context.now.run.now.explain in
    plays_on (settings c.args.context.now.run.now) b.script (shown_nodes asked b.plan.plan.nodes) b.world (explains_shown b.script asked b.plan.plan.nodes c.requires.plan)
    (g.O.Sink.written c.args.out.now) (g.O.Sink.written c.explain.new.out) (g.O.Sink.written c.play.new.out)
    (g.O.Sink.faults c.args.out.now) (g.O.Sink.faults c.explain.new.out) (g.O.Sink.faults c.play.new.out) tt c.play.result c.in-Ok.ensures c.play.ensures.played

pub returns-in-Err-clause-played : goal.returns-in-Err-clause-played
returns-in-Err-clause-played g c =
    let b = c.args.battle.now in
    let asked = c.args.context.now.run.now.explain in
    plays_none (settings c.args.context.now.run.now) b.script (shown_nodes asked b.plan.plan.nodes) b.world (explains_shown b.script asked b.plan.plan.nodes c.requires.plan)
    (g.O.Sink.written c.args.out.now) (g.O.Sink.written c.explain.new.out)
    (g.O.Sink.faults c.args.out.now) (g.O.Sink.faults c.explain.new.out) c.in-Err.status c.requires.begun.first c.in-Err.ensures
