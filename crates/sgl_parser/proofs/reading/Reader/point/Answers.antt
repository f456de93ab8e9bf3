use Rattle.std.proofs.Common.{rules}
use Rattle.sgl_parser.proofs.Returns.{token_missing}
use Rattle.sgl_parser.proofs.Sequences.{done_finishes, then_finishes, done_passes}
use Rattle.sgl_parser.proofs.Parts.{behind, pass_behind, absent}
use Rattle.sgl_parser.specs.Shape.{kinds_of}
use Rattle.sgl_parser.specs.Scripts.{a_point}
use Rattle.sgl_parser.proofs.reading.Reader.point.Goals as goal

pub returns : goal.returns
returns c = record {
  passes = pass_behind c.in_ok-rest.ensures.list c.in_ok-rest.ensures.kind (pass_behind c.in_ok-x.ensures.list c.in_ok-x.ensures.kind (pass_behind c.in_ok-rest-2.ensures.list c.in_ok-rest-2.ensures.kind (pass_behind c.in_ok-y.ensures.list c.in_ok-y.ensures.kind (done_passes (kinds_of c.in_ok-y.rest.now)))));
  spells = rw (c.in_ok-rest.ensures.list, c.in_ok-x.ensures.list, c.in_ok-rest-2.ensures.list, c.in_ok-y.ensures.list, c.in_ok-x-2.ensures.name, c.in_ok-y-2.ensures.name) (a_point c.in_ok-rest.ensures.kind c.in_ok-x.ensures.kind c.in_ok-rest-2.ensures.kind c.in_ok-y.ensures.kind);
  shorter = search rules;
  of = search rules;
}

pub returns-in_err-rest : goal.returns-in_err-rest
returns-in_err-rest c = token_missing c.from_residual.result _ c.from_residual.ensures.1 c.in_err-rest.ensures.err.0 (absent c.args.tokens.now (then_finishes (then_finishes (then_finishes done_finishes))) c.in_err-rest.ensures.err.1)

pub returns-in_err-x : goal.returns-in_err-x
returns-in_err-x c = token_missing c.from_residual-in_err-x.result _ c.from_residual-in_err-x.ensures.1 c.in_err-x.ensures.err.0 (behind _ c.in_ok-rest.ensures.list c.in_ok-rest.ensures.kind (absent c.in_ok-rest.rest.now (then_finishes (then_finishes done_finishes)) c.in_err-x.ensures.err.1))

pub returns-in_err-rest-2 : goal.returns-in_err-rest-2
returns-in_err-rest-2 c = token_missing c.from_residual-in_err-rest-2.result _ c.from_residual-in_err-rest-2.ensures.1 c.in_err-rest-2.ensures.err.0 (behind _ c.in_ok-rest.ensures.list c.in_ok-rest.ensures.kind (behind _ c.in_ok-x.ensures.list c.in_ok-x.ensures.kind (absent c.in_ok-x.rest.now (then_finishes done_finishes) c.in_err-rest-2.ensures.err.1)))

pub returns-in_err-y : goal.returns-in_err-y
returns-in_err-y c = token_missing c.from_residual-in_err-y.result _ c.from_residual-in_err-y.ensures.1 c.in_err-y.ensures.err.0 (behind _ c.in_ok-rest.ensures.list c.in_ok-rest.ensures.kind (behind _ c.in_ok-x.ensures.list c.in_ok-x.ensures.kind (behind _ c.in_ok-rest-2.ensures.list c.in_ok-rest-2.ensures.kind (absent c.in_ok-rest-2.rest.now done_finishes c.in_err-y.ensures.err.1))))
