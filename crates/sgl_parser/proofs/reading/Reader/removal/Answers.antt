use Rattle.std.proofs.Common.{rules}
use Rattle.sgl_parser.proofs.Returns.{token_missing, part_broken}
use Rattle.sgl_parser.proofs.Omitted.{omitted_reads, stands_breaks, stands_passes}
use Rattle.sgl_parser.proofs.Sequences.{narrower_breaks, narrower_passes}
use Rattle.sgl_parser.proofs.Parts.{behind, pass_behind, absent, value_finishes, not_here}
use Rattle.sgl_parser.specs.Breaks.{At}
use Rattle.sgl_parser.specs.Scripts.{no_removal, a_removal}
use Rattle.sgl_lexer.specs.declared.lexeme.TokenKind.TheVariants as kinds
use Rattle.sgl_lexer.specs.declared.vocabulary.Word.TheVariants as words
use Rattle.sgl_lexer.specs.declared.vocabulary.Sign.TheVariants as signs
use Rattle.sgl_parser.proofs.reading.Reader.removal.Goals as goal

pub returns : goal.returns
returns c = record {
  passes = stands_passes (At (kinds.Sign signs.BraceClose)) (kinds.Word words.Remove) (λ zs e. cc) c.in-Some.ensures.list c.in-Some.ensures.kind (pass_behind c.in_ok-rest.ensures.list c.in_ok-rest.ensures.kind (narrower_passes (λ to s. tt) c.in_ok-condition.ensures.passes));
  spells = rw (c.in-Some.ensures.list, c.in_ok-rest.ensures.list) (a_removal c.in-Some.ensures.kind c.in_ok-rest.ensures.kind c.in_ok-condition.ensures.spells);
  shorter = search rules;
  of = search rules;
}

pub returns-in_default : goal.returns-in_default
returns-in_default c = omitted_reads (not_here c.args.tokens.now c.in_default.ensures.none) no_removal c.requires

pub returns-in_err-rest : goal.returns-in_err-rest
returns-in_err-rest c = token_missing c.from_residual.result _ c.from_residual.ensures.1 c.in_err-rest.ensures.err.0 (stands_breaks (At (kinds.Sign signs.BraceClose)) (kinds.Word words.Remove) (λ zs e. cc) c.in-Some.ensures.list c.in-Some.ensures.kind _ (absent c.in-Some.rest.now value_finishes c.in_err-rest.ensures.err.1))

pub returns-in_err-condition : goal.returns-in_err-condition
returns-in_err-condition c = part_broken c.from_residual-in_err-condition.result _ _ c.from_residual-in_err-condition.ensures.1 (λ n f. (stands_breaks (At (kinds.Sign signs.BraceClose)) (kinds.Word words.Remove) (λ zs e. cc) c.in-Some.ensures.list c.in-Some.ensures.kind n (behind n c.in_ok-rest.ensures.list c.in_ok-rest.ensures.kind (narrower_breaks (λ to s. tt) n f)))) c.in_err-condition.ensures
