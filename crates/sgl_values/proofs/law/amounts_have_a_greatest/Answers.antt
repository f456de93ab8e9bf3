-- The greatest amount is greatest, by the lemmas.
use Rattle.sgl_values.specs.Amounts.{falling_cmp}
use Rattle.sgl_values.proofs.LeastLaws.{amount_laws, least_is, least_none}
use Rattle.sgl_values.proofs.law.amounts_have_a_greatest.Goals as goal

pub returns : goal.returns
returns c = record { greatest = least_is falling_cmp amount_laws.total; none = least_none falling_cmp }
