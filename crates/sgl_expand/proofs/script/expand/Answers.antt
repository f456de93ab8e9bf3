use Rattle.sgl_expand.proofs.Whole.{small-written-out}
use Rattle.sgl_expand.proofs.script.expand.Goals as goal

pub returns-clause-written_out : goal.returns-clause-written_out
returns-clause-written_out c = small-written-out c.args.script.now c.in_ok-write_script.field-0 c.in_ok-write_script.ensures c.in_ok-check_sizes.ensures.small
