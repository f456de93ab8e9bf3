use Rattle.std.proofs.Common.{refl, length, ap, arith}
use Rattle.sgl_lexer.proofs.Within.{tokens_within}
use Rattle.sgl_parser.specs.Shape.{kinds_of}
use Rattle.sgl_parser.proofs.Answering.{shallow_fault}
use Rattle.sgl_parser.proofs.TokenKinds.{kinds-length}
use Rattle.sgl_parser.proofs.parser.read_whole.Goals as goal

pub items-requires : goal.items-requires
items-requires c = rw (c.new.ensures, c.as_slice-list.ensures) (tokens_within c.args.text.now c.args.tokens.now.list _ c.requires.tokens)

pub returns-in-Err-Syntax-clause-fault : goal.returns-in-Err-Syntax-clause-fault
returns-in-Err-Syntax-clause-fault c =
    let broken = rw (c.in-Err-Syntax.field-0-is, c.as_slice-list.ensures) at c.in-Err-Syntax.ensures.fails in
    rw c.syntax_fault.ensures (shallow_fault (kinds_of c.args.tokens.now.list) c.in-Err-Syntax.left _ c.requires.shallow broken (omega (arith, kinds-length c.args.tokens.now.list, ap length c.as_slice-list.ensures)), refl)
