use Rattle.effect_board.proofs.Deposits.{cells_given}
use Rattle.effect_board.proofs.law.cells_give_what_is_held.Goals as goal

pub returns : goal.returns
returns c = cells_given
