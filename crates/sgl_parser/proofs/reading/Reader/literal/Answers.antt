use Rattle.sgl_parser.proofs.Returns.{token_missing}
use Rattle.std.proofs.Common.{ap, refl, rules}
use Rattle.sgl_parser.proofs.Sequences.{done_finishes, done_passes, left_breaks, right_breaks, left_passes, right_passes, one_excludes}
use Rattle.sgl_parser.proofs.Parts.{behind, pass_behind, pass_one, absent_one, some_number, none_at, not_here}
use Rattle.sgl_parser.specs.Operators.{is_number}
use Rattle.sgl_parser.specs.Shape.{kinds_of}
use Rattle.sgl_parser.specs.Scripts.{plain, negative}
use Rattle.sgl_lexer.specs.declared.lexeme.TokenKind.TheVariants as kinds
use Rattle.sgl_lexer.specs.declared.vocabulary.Sign.TheVariants as signs
use Rattle.sgl_parser.proofs.reading.Reader.literal.Goals as goal

pub returns : goal.returns
returns c = record {
  passes = right_passes (not_here c.args.tokens.now c.in_default.ensures.none) (pass_one c.in_ok-token-2.ensures.list (ap is_number c.in_ok-token-2.ensures.kind) (done_passes (kinds_of c.in_ok-token-2.rest.now)));
  spells = rw (c.in_ok-token-2.ensures.list, c.literal-2.ensures) (plain c.in_ok-token-2.ensures.kind);
  shorter = search rules;
  of = search rules;
}

pub returns-in-Some : goal.returns-in-Some
returns-in-Some c = record {
  passes = left_passes (one_excludes (kinds_of c.args.tokens.now) (none_at is_number (kinds.Sign signs.Minus) c.in-Some.ensures.list c.in-Some.ensures.kind refl)) (pass_behind c.in-Some.ensures.list c.in-Some.ensures.kind (pass_one c.in_ok-token.ensures.list (ap is_number c.in_ok-token.ensures.kind) (done_passes (kinds_of c.in_ok-token.rest.now))));
  spells = rw (c.in-Some.ensures.list, c.in_ok-token.ensures.list, c.literal.ensures) (negative c.in-Some.ensures.kind c.in_ok-token.ensures.kind);
  shorter = search rules;
  of = search rules;
}

pub returns-in_err-token : goal.returns-in_err-token
returns-in_err-token c = token_missing c.from_residual.result _ c.from_residual.ensures.1 c.in_err-token.ensures.err.0 (left_breaks (one_excludes (kinds_of c.args.tokens.now) (none_at is_number (kinds.Sign signs.Minus) c.in-Some.ensures.list c.in-Some.ensures.kind refl)) _ (behind _ c.in-Some.ensures.list c.in-Some.ensures.kind (absent_one c.in-Some.rest.now some_number done_finishes c.in_err-token.ensures.err.1)))

pub returns-in_err-token-2 : goal.returns-in_err-token-2
returns-in_err-token-2 c = token_missing c.from_residual-in_err-token-2.result _ c.from_residual-in_err-token-2.ensures.1 c.in_err-token-2.ensures.err.0 (right_breaks (not_here c.args.tokens.now c.in_default.ensures.none) _ (absent_one c.args.tokens.now some_number done_finishes c.in_err-token-2.ensures.err.1))
