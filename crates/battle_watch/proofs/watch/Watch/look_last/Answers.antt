use Rattle.battle_watch.proofs.Looks.{ended}
use Rattle.battle_watch.proofs.watch.Watch.look_last.Goals as goal

pub returns : goal.returns
returns g c =
    ended g.C.Course.worlds c.args.looks c.args.self.now c.learn_last.new.self c.look.new.self c.requires.looked.0 c.learn_last.ensures c.look.ensures
