use Rattle.std.proofs.Common.{arith}
use Rattle.sgl_parser.proofs.Returns.{part_broken}
use Rattle.sgl_parser.proofs.Omitted.{omitted_reads, stands_breaks, stands_reads}
use Rattle.sgl_parser.proofs.Parts.{not_here}
use Rattle.sgl_parser.specs.ItemShape.{BehindTests}
use Rattle.sgl_parser.specs.Scripts.{no_where, a_where}
use Rattle.sgl_lexer.specs.declared.lexeme.TokenKind.TheVariants as kinds
use Rattle.sgl_lexer.specs.declared.vocabulary.Word.TheVariants as words
use Rattle.sgl_parser.proofs.reading.Reader.where_tests.Goals as goal

pub returns : goal.returns
returns c = stands_reads BehindTests (kinds.Word words.Where) (λ zs s. s) c.in-Some.ensures.list c.in-Some.ensures.kind c.in_ok-tests.ensures.passes (rw c.in-Some.ensures.list (a_where c.in-Some.ensures.kind c.in_ok-tests.ensures.spells)) (omega (arith, c.in_ok-tests.ensures.shorter)) c.in_ok-tests.ensures.of

pub returns-in_default : goal.returns-in_default
returns-in_default c = omitted_reads (not_here c.args.tokens.now c.in_default.ensures.none) (rw c.new.ensures no_where) c.requires

pub returns-in_err-tests : goal.returns-in_err-tests
returns-in_err-tests c = part_broken c.from_residual.result _ _ c.from_residual.ensures.1 (stands_breaks BehindTests (kinds.Word words.Where) (λ zs s. s) c.in-Some.ensures.list c.in-Some.ensures.kind) c.in_err-tests.ensures
