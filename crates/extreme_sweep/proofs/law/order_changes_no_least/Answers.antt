use Rattle.extreme_sweep.proofs.Scanning.{least-IsPermutation}
use Rattle.extreme_sweep.proofs.law.order_changes_no_least.Goals as goal

pub returns : goal.returns
returns c = λ points others window. least-IsPermutation window points others
