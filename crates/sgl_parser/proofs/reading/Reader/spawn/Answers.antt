use Rattle.std.proofs.Common.{refl, arith}
use Rattle.sgl_parser.proofs.Returns.{part_broken}
use Rattle.sgl_parser.proofs.Omitted.{omitted_reads, stands_breaks, stands_reads}
use Rattle.sgl_parser.proofs.Sequences.{narrower_breaks, narrower_passes}
use Rattle.sgl_parser.proofs.Parts.{not_here}
use Rattle.sgl_parser.specs.Breaks.{NotAt}
use Rattle.sgl_parser.specs.Scripts.{no_spawn, a_spawn}
use Rattle.sgl_lexer.specs.declared.lexeme.TokenKind.TheVariants as kinds
use Rattle.sgl_lexer.specs.declared.vocabulary.Word.TheVariants as words
use Rattle.sgl_parser.proofs.reading.Reader.spawn.Goals as goal

pub returns : goal.returns
returns c = stands_reads (NotAt (kinds.Word words.Spawn)) (kinds.Word words.Spawn) (λ zs s. s refl) c.in-Some.ensures.list c.in-Some.ensures.kind (narrower_passes (λ to s. tt) c.in_ok-child.ensures.passes) (rw c.in-Some.ensures.list (a_spawn c.in-Some.ensures.kind c.in_ok-child.ensures.spells)) (omega (arith, c.in_ok-child.ensures.shorter)) c.in_ok-child.ensures.of

pub returns-in_default : goal.returns-in_default
returns-in_default c = omitted_reads (not_here c.args.tokens.now c.in_default.ensures.none) no_spawn c.requires

pub returns-in_err-child : goal.returns-in_err-child
returns-in_err-child c = part_broken c.from_residual.result _ _ c.from_residual.ensures.1 (λ n f. stands_breaks (NotAt (kinds.Word words.Spawn)) (kinds.Word words.Spawn) (λ zs s. s refl) c.in-Some.ensures.list c.in-Some.ensures.kind n (narrower_breaks (λ to s. tt) n f)) c.in_err-child.ensures
