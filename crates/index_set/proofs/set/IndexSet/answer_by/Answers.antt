use Rattle.std.proofs.Common.{refl}
use Rattle.index_set.proofs.set.IndexSet.answer_by.Goals as goal

pub returns : goal.returns
returns c = c.node_answer.ensures.slots refl
