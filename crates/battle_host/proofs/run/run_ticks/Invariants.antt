-- The stand is that of the worlds of this run.
use Rattle.battle_host.specs.Play.{run_of}
use Rattle.battle_words.specs.Words.{settings}
use Rattle.battle_host.proofs.run.run_ticks.Given as goal

abbrev pub ghosts-play : goal.ghosts-play
ghosts-play g a = record { worlds = (run_of (settings a.context.now.run.now) a.battle.now.script a.battle.now.world).worlds }
