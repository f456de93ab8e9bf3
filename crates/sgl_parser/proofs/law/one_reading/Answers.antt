use Rattle.sgl_parser.proofs.Single.{one_script}
use Rattle.sgl_parser.proofs.law.one_reading.Goals as goal

pub returns : goal.returns
returns c = one_script
