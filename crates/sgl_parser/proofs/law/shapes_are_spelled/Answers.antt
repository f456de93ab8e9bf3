use Rattle.sgl_parser.proofs.Answering.{shapes_spelled}
use Rattle.sgl_parser.proofs.law.shapes_are_spelled.Goals as goal

pub returns : goal.returns
returns c = shapes_spelled
