use Rattle.sgl_typed.specs.Tick.{worlds}
use Rattle.board_tests.proofs.tests.stands.spectators_see_the_worlds_beside_the_publisher.Given as goal

abbrev pub ghosts-show_all : goal.ghosts-show_all
ghosts-show_all g a = record { worlds = (worlds a.script.now a.start.now.world 0 1 199).worlds }
