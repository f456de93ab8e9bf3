use Rattle.sgl_parser.proofs.Answering.{answers_once}
use Rattle.sgl_parser.proofs.law.one_answer.Goals as goal

pub returns : goal.returns
returns c = answers_once
