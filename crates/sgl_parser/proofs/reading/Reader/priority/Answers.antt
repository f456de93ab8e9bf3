use Rattle.std.proofs.Common.{arith}
use Rattle.sgl_parser.proofs.Returns.{part_broken}
use Rattle.sgl_parser.proofs.Omitted.{omitted_reads, stands_breaks, stands_reads}
use Rattle.sgl_parser.proofs.Sequences.{narrower_breaks, narrower_passes}
use Rattle.sgl_parser.proofs.Parts.{not_here, value_ends}
use Rattle.sgl_parser.proofs.Fronts.{part_passed}
use Rattle.sgl_parser.specs.Breaks.{At}
use Rattle.sgl_parser.specs.Scripts.{no_priority, a_priority}
use Rattle.sgl_lexer.specs.declared.lexeme.TokenKind.TheVariants as kinds
use Rattle.sgl_lexer.specs.declared.vocabulary.Word.TheVariants as words
use Rattle.sgl_lexer.specs.declared.vocabulary.Sign.TheVariants as signs
use Rattle.sgl_parser.proofs.reading.Reader.priority.Goals as goal

pub returns : goal.returns
returns c = stands_reads (At (kinds.Sign signs.Semicolon)) (kinds.Word words.By) (λ zs e. cc) c.in-Some.ensures.list c.in-Some.ensures.kind (narrower_passes value_ends (part_passed c.in_ok-priority.ensures)) (rw c.in-Some.ensures.list (a_priority c.in-Some.ensures.kind c.in_ok-priority.ensures.spells)) (omega (arith, c.in_ok-priority.ensures.shorter)) c.in_ok-priority.ensures.of

pub returns-in_default : goal.returns-in_default
returns-in_default c = omitted_reads (not_here c.args.tokens.now c.in_default.ensures.none) no_priority c.requires

pub returns-in_err-priority : goal.returns-in_err-priority
returns-in_err-priority c = part_broken c.from_residual.result _ _ c.from_residual.ensures.1 (λ n f. stands_breaks (At (kinds.Sign signs.Semicolon)) (kinds.Word words.By) (λ zs e. cc) c.in-Some.ensures.list c.in-Some.ensures.kind n (narrower_breaks value_ends n f)) c.in_err-priority.ensures
