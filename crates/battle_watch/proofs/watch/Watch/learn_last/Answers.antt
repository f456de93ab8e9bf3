use Rattle.std.proofs.Common.{arith}
use Rattle.battle_watch.proofs.Looks.{rise_later}
use Rattle.battle_watch.proofs.watch.Watch.learn_last.Goals as goal

pub invariant_of-self : goal.invariant_of-self
invariant_of-self g c =
    let held = c.self.invariant in
    record {
      numbered = held.numbered;
      few = held.few;
      looks = held.looks;
      rise = rise_later 0 c.self.inside.spectator c.learn.new.self c.self.inside.notes.items held.rise (omega (arith, c.learn.ensures));
    }
