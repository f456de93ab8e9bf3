use Rattle.sgl_values.proofs.LeastLaws.{least_is, least_none}
use Rattle.extreme_sweep.specs.Pairs.{pair_cmp}
use Rattle.extreme_sweep.proofs.PairLaws.{pair_laws}
use Rattle.extreme_sweep.proofs.law.pairs_have_a_least.Goals as goal

pub returns-clause-least : goal.returns-clause-least
returns-clause-least c = least_is pair_cmp pair_laws.total

pub returns-clause-none : goal.returns-clause-none
returns-clause-none c = least_none pair_cmp
