use Rattle.sgl_expand.proofs.Items.{keeps-meaning}
use Rattle.sgl_expand.proofs.Whole.{counts-all}
use Rattle.sgl_expand.proofs.law.written_scripts_keep_items.Goals as goal

pub returns-clause-meaning : goal.returns-clause-meaning
returns-clause-meaning c = keeps-meaning

pub returns-clause-counts : goal.returns-clause-counts
returns-clause-counts c = counts-all
