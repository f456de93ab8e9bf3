use Rattle.sgl_parser.proofs.Returns.{token_missing, part_broken}
use Rattle.std.proofs.Common.{ap, refl, rules}
use Rattle.std.specs.Option.{is_some}
use Rattle.sgl_parser.proofs.Sequences.{done_finishes, then_finishes, before_finishes, before_breaks, behind_breaks, before_passes, done_passes, left_breaks, right_breaks, left_passes, right_passes, one_excludes}
use Rattle.sgl_parser.proofs.Parts.{behind, pass_behind, absent, behind_one, pass_one, absent_one, some_tag, literal_finishes, anywhere, none_at, not_here}
use Rattle.sgl_parser.specs.Operators.{is_tag}
use Rattle.sgl_parser.specs.Shape.{kinds_of}
use Rattle.sgl_parser.specs.Scripts.{a_const, an_effect}
use Rattle.sgl_lexer.specs.declared.lexeme.TokenKind.TheVariants as kinds
use Rattle.sgl_lexer.specs.declared.vocabulary.Word.TheVariants as words
use Rattle.sgl_parser.proofs.reading.Reader.sort.Goals as goal

pub returns : goal.returns
returns c = record {
  passes = right_passes (not_here c.args.tokens.now c.in_default.ensures.none) (pass_one c.in_ok-tag.ensures.list (ap is_some c.in_ok-tag.ensures.kind) (pass_behind c.in_ok-rest-2.ensures.list c.in_ok-rest-2.ensures.kind (before_passes (anywhere _ _) c.in_ok-init.ensures.passes (pass_behind c.in_ok-rest-3.ensures.list c.in_ok-rest-3.ensures.kind (done_passes (kinds_of c.in_ok-rest-3.rest.now))))));
  spells = rw (c.in_ok-tag.ensures.list, c.in_ok-rest-2.ensures.list) (an_effect c.in_ok-tag.ensures.kind c.in_ok-rest-2.ensures.kind (rw c.in_ok-rest-3.ensures.list at c.in_ok-init.ensures.spells) c.in_ok-rest-3.ensures.kind);
  shorter = search rules;
  of = search rules;
}

pub returns-in-Some : goal.returns-in-Some
returns-in-Some c = record {
  passes = left_passes (one_excludes (kinds_of c.args.tokens.now) (none_at is_tag (kinds.Word words.Const) c.in-Some.ensures.list c.in-Some.ensures.kind refl)) (pass_behind c.in-Some.ensures.list c.in-Some.ensures.kind (pass_behind c.in_ok-rest.ensures.list c.in_ok-rest.ensures.kind (done_passes (kinds_of c.in_ok-rest.rest.now))));
  spells = rw (c.in-Some.ensures.list, c.in_ok-rest.ensures.list) (a_const c.in-Some.ensures.kind c.in_ok-rest.ensures.kind);
  shorter = search rules;
  of = search rules;
}

pub returns-in_err-rest : goal.returns-in_err-rest
returns-in_err-rest c = token_missing c.from_residual.result _ c.from_residual.ensures.1 c.in_err-rest.ensures.err.0 (left_breaks (one_excludes (kinds_of c.args.tokens.now) (none_at is_tag (kinds.Word words.Const) c.in-Some.ensures.list c.in-Some.ensures.kind refl)) _ (behind _ c.in-Some.ensures.list c.in-Some.ensures.kind (absent c.in-Some.rest.now done_finishes c.in_err-rest.ensures.err.1)))

pub returns-in_err-tag : goal.returns-in_err-tag
returns-in_err-tag c = token_missing c.from_residual-in_err-tag.result _ c.from_residual-in_err-tag.ensures.1 c.in_err-tag.ensures.err.0 (right_breaks (not_here c.args.tokens.now c.in_default.ensures.none) _ (absent_one c.args.tokens.now some_tag (then_finishes (before_finishes literal_finishes (then_finishes done_finishes))) c.in_err-tag.ensures.err.1))

pub returns-in_err-rest-2 : goal.returns-in_err-rest-2
returns-in_err-rest-2 c = token_missing c.from_residual-in_err-rest-2.result _ c.from_residual-in_err-rest-2.ensures.1 c.in_err-rest-2.ensures.err.0 (right_breaks (not_here c.args.tokens.now c.in_default.ensures.none) _ (behind_one _ c.in_ok-tag.ensures.list (ap is_some c.in_ok-tag.ensures.kind) (absent c.in_ok-tag.rest.now (before_finishes literal_finishes (then_finishes done_finishes)) c.in_err-rest-2.ensures.err.1)))

pub returns-in_err-init : goal.returns-in_err-init
returns-in_err-init c = part_broken c.from_residual-in_err-init.result _ _ c.from_residual-in_err-init.ensures.1 (λ n f. (right_breaks (not_here c.args.tokens.now c.in_default.ensures.none) n (behind_one n c.in_ok-tag.ensures.list (ap is_some c.in_ok-tag.ensures.kind) (behind n c.in_ok-rest-2.ensures.list c.in_ok-rest-2.ensures.kind (before_breaks (anywhere _ _) (then_finishes done_finishes) n f))))) c.in_err-init.ensures

pub returns-in_err-rest-3 : goal.returns-in_err-rest-3
returns-in_err-rest-3 c = token_missing c.from_residual-in_err-rest-3.result _ c.from_residual-in_err-rest-3.ensures.1 c.in_err-rest-3.ensures.err.0 (right_breaks (not_here c.args.tokens.now c.in_default.ensures.none) _ (behind_one _ c.in_ok-tag.ensures.list (ap is_some c.in_ok-tag.ensures.kind) (behind _ c.in_ok-rest-2.ensures.list c.in_ok-rest-2.ensures.kind (behind_breaks (anywhere _ _) c.in_ok-init.ensures.passes _ (absent c.in_ok-init.rest.now done_finishes c.in_err-rest-3.ensures.err.1)))))
