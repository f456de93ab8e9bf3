use Rattle.battle_watch.proofs.Looks.{look_at}
use Rattle.battle_watch.proofs.watch.look_once.Goals as goal

pub returns-clause-look : goal.returns-clause-look
returns-clause-look g c =
    look_at g.C.Course.worlds c.look-shown.result c.world-world.result.now.world record { tick = c.tick.result; units = c.len.result } c.requires c.world-world.ensures
    (λ i. record { tick = c.tick.ensures.value i; units = c.len.ensures.value i })
