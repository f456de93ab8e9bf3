-- The script is idle, so the worlds of its run are still.
use Rattle.std.proofs.Common.{refl, arith}
use Rattle.sgl_typed.specs.Tick.{worlds}
use Rattle.board_tests.proofs.Stills.{entry_of, written_out_of}
use Rattle.board_tests.proofs.tests.stands.spectators_see_the_worlds_beside_the_publisher.Goals as goal

pub show_all-requires-clause-written_out : goal.show_all-requires-clause-written_out
show_all-requires-clause-written_out g c lifetimes =
    written_out_of c.idle-script.result c.idle-script.ensures.routines c.idle-script.ensures.main c.idle-script.ensures.slots

pub show_all-requires-clause-still : goal.show_all-requires-clause-still
show_all-requires-clause-still g c lifetimes position inside =
    let idle = c.idle-script.ensures in
    entry_of (worlds c.idle-script.result c.in_ok-start.start.world 0 1 199).worlds c.idle-script.result c.in_ok-start.start.world 199 position
    record { effects = idle.effects; main = idle.main; rules = idle.rules; spawn = idle.spawn; removal = idle.removal }
    refl c.in_ok-start.ensures (omega (arith, inside))
