use Rattle.battle_watch.proofs.Lines.{no_text}
use Rattle.battle_watch.proofs.law.no_spectator_writes_no_line.Goals as goal

pub returns : goal.returns
returns c = no_text
