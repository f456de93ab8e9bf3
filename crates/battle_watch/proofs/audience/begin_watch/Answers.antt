use Rattle.std.proofs.Common.{sym, subst}
use Rattle.battle_watch.specs.Watches.{AreNumbered}
use Rattle.battle_watch.proofs.Looks.{run_numbered}
use Rattle.battle_watch.proofs.audience.begin_watch.Goals as goal

pub seat-requires-clause-all : goal.seat-requires-clause-all
seat-requires-clause-all g c =
    subst AreNumbered (sym c.requires.all) (run_numbered c.args.script.now c.args.start.now.world c.args.seed c.args.items c.args.ticks c.requires.start)
