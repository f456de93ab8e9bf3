-- The script is idle, so the worlds of its run are still.
use Rattle.std.proofs.Common.{refl, arith}
use Rattle.sgl_typed.specs.Tick.{worlds}
use Rattle.board_tests.proofs.Stills.{entry_of, written_out_of}
use Rattle.board_tests.proofs.tests.stands.a_spectator_that_learnt_sees_the_second_world.Goals as goal

pub show_second-requires-clause-written_out : goal.show_second-requires-clause-written_out
show_second-requires-clause-written_out g c =
    written_out_of c.idle-script.result c.idle-script.ensures.routines c.idle-script.ensures.main c.idle-script.ensures.slots

pub show_second-requires-clause-still : goal.show_second-requires-clause-still
show_second-requires-clause-still g c position inside =
    let idle = c.idle-script.ensures in
    entry_of (worlds c.idle-script.result c.in_ok-start.start.world 0 1 1).worlds c.idle-script.result c.in_ok-start.start.world 1 position
    record { effects = idle.effects; main = idle.main; rules = idle.rules; spawn = idle.spawn; removal = idle.removal }
    refl c.in_ok-start.ensures (omega (arith, inside))
