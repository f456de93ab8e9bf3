use Rattle.std.proofs.Common.{◌∙◌}
use Rattle.extreme_sweep.proofs.sweep_windows.answer.Goals as goal

pub returns-else-rank-eq-UNSWEPT : goal.returns-else-rank-eq-UNSWEPT
returns-else-rank-eq-UNSWEPT c = c.pair.ensures ∙ c.requires c.if-rank-eq-UNSWEPT.false
