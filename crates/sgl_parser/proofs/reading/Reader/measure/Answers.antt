use Rattle.sgl_parser.proofs.Returns.{token_missing}
use Rattle.std.proofs.Common.{ap, rules}
use Rattle.std.specs.Option.{is_some}
use Rattle.sgl_parser.proofs.Sequences.{done_finishes, then_finishes, done_passes}
use Rattle.sgl_parser.proofs.Parts.{behind, pass_behind, absent, behind_one, pass_one, absent_one, some_fold}
use Rattle.sgl_parser.specs.Shape.{kinds_of}
use Rattle.sgl_parser.specs.Scripts.{a_measure}
use Rattle.sgl_parser.proofs.reading.Reader.measure.Goals as goal

pub returns : goal.returns
returns c = record {
  passes = pass_one c.in_ok-word.ensures.list (ap is_some c.in_ok-word.ensures.kind) (pass_behind c.in_ok-row.ensures.list c.in_ok-row.ensures.kind (pass_behind c.in_ok-rest.ensures.list c.in_ok-rest.ensures.kind (pass_behind c.in_ok-attr.ensures.list c.in_ok-attr.ensures.kind (done_passes (kinds_of c.in_ok-attr.rest.now)))));
  spells = rw (c.in_ok-word.ensures.list, c.in_ok-row.ensures.list, c.in_ok-rest.ensures.list, c.in_ok-attr.ensures.list, c.in_ok-row-2.ensures.name, c.in_ok-attr-2.ensures.name) (a_measure c.in_ok-word.ensures.kind c.in_ok-row.ensures.kind c.in_ok-rest.ensures.kind c.in_ok-attr.ensures.kind);
  shorter = search rules;
  of = search rules;
}

pub returns-in_err-word : goal.returns-in_err-word
returns-in_err-word c = token_missing c.from_residual.result _ c.from_residual.ensures.1 c.in_err-word.ensures.err.0 (absent_one c.args.tokens.now some_fold (then_finishes (then_finishes (then_finishes done_finishes))) c.in_err-word.ensures.err.1)

pub returns-in_err-row : goal.returns-in_err-row
returns-in_err-row c = token_missing c.from_residual-in_err-row.result _ c.from_residual-in_err-row.ensures.1 c.in_err-row.ensures.err.0 (behind_one _ c.in_ok-word.ensures.list (ap is_some c.in_ok-word.ensures.kind) (absent c.in_ok-word.rest.now (then_finishes (then_finishes done_finishes)) c.in_err-row.ensures.err.1))

pub returns-in_err-rest : goal.returns-in_err-rest
returns-in_err-rest c = token_missing c.from_residual-in_err-rest.result _ c.from_residual-in_err-rest.ensures.1 c.in_err-rest.ensures.err.0 (behind_one _ c.in_ok-word.ensures.list (ap is_some c.in_ok-word.ensures.kind) (behind _ c.in_ok-row.ensures.list c.in_ok-row.ensures.kind (absent c.in_ok-row.rest.now (then_finishes done_finishes) c.in_err-rest.ensures.err.1)))

pub returns-in_err-attr : goal.returns-in_err-attr
returns-in_err-attr c = token_missing c.from_residual-in_err-attr.result _ c.from_residual-in_err-attr.ensures.1 c.in_err-attr.ensures.err.0 (behind_one _ c.in_ok-word.ensures.list (ap is_some c.in_ok-word.ensures.kind) (behind _ c.in_ok-row.ensures.list c.in_ok-row.ensures.kind (behind _ c.in_ok-rest.ensures.list c.in_ok-rest.ensures.kind (absent c.in_ok-rest.rest.now done_finishes c.in_err-attr.ensures.err.1))))
