use Rattle.sgl_typed.specs.Tick.{worlds}
use Rattle.board_tests.proofs.tests.stands.a_spectator_that_learnt_sees_the_second_world.Given as goal

abbrev pub ghosts-show_second : goal.ghosts-show_second
ghosts-show_second g a = record { worlds = (worlds a.script.now a.start.now.world 0 1 1).worlds }
