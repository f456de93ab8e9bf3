use Rattle.effect_board.proofs.Claiming.{claims_are_counted}
use Rattle.effect_board.proofs.law.claims_are_counted.Goals as goal

pub returns : goal.returns
returns c = claims_are_counted
