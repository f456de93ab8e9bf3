use Rattle.plan_executor.proofs.run.Run.forms.Goals as goal

pub returns : goal.returns
returns c =
    let run = c.args.self.now in
    c.forms.ensures.forms run.tick.script.now run.plan.now run.tick.world.now.world run.tick.seed c.requires.can.index
