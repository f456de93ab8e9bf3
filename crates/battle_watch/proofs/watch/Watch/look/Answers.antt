use Rattle.std.proofs.Common.{rules, ◌-◌}
use Rattle.std.specs.Prelude.{vec_capacity, vec_len}
use Rattle.battle_watch.proofs.Looks.{watching_more}
use Rattle.battle_watch.proofs.watch.Watch.look.Goals as goal

pub invariant_of-self : goal.invariant_of-self
invariant_of-self g c =
    watching_more g.C.Course.worlds
    record { number = c.self.inside.number; seen = c.self.inside.spectator; room = vec_capacity c.self.inside.notes - vec_len c.self.inside.notes; notes = c.self.inside.notes.items }
    record { number = c.self.inside.number; seen = c.replace_with-note.new.dest; room = vec_capacity c.push_reserved.new.self - vec_len c.push_reserved.new.self; notes = c.push_reserved.new.self.items }
    c.self.invariant (search rules)
