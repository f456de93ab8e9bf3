-- The items are joined, by the lemmas.
use Rattle.sgl_typed.proofs.Tasks.{items-append, items-of_tasks}
use Rattle.sgl_typed.proofs.law.items_join.Goals as goal

pub returns : goal.returns
returns c = record { units = items-append; tasks = items-of_tasks }
