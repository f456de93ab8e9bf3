use Rattle.std.proofs.Common.{refl, arith}
use Rattle.std.specs.Prelude.{Ok}
use Rattle.std.specs.declared.alloc.AllocError.{AllocError}
use Rattle.std.proofs.lemmas.Iterator.{items_from_collect, YieldsList-from_range}
use Rattle.group_sweeps.proofs.group_sweep.first_rows.Goals as goal

pub returns : goal.returns
returns c = items_from_collect {E = AllocError} (Ok c.in_ok-collect.field-0) c.in_ok-collect.ensures.ran (YieldsList-from_range 0 c.args.count c.args.count refl (omega arith))
