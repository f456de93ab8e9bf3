use Rattle.sgl_lexer.proofs.Single.{one_lexing}
use Rattle.sgl_lexer.proofs.law.one_lexing.Goals as goal

pub returns : goal.returns
returns c = one_lexing
