use Rattle.effect_board.proofs.Claiming.{misses_come_last}
use Rattle.effect_board.proofs.law.misses_come_last.Goals as goal

pub returns : goal.returns
returns c = misses_come_last
