use Rattle.std.proofs.Common.{rules}
use Rattle.sgl_parser.proofs.Returns.{token_missing, part_broken}
use Rattle.sgl_parser.proofs.Sequences.{done_finishes, then_finishes, before_finishes, before_breaks, behind_breaks, before_passes, done_passes}
use Rattle.sgl_parser.proofs.Parts.{behind, pass_behind, absent, point_finishes, anywhere}
use Rattle.sgl_parser.specs.Shape.{kinds_of}
use Rattle.sgl_parser.specs.Scripts.{a_nearest}
use Rattle.sgl_parser.proofs.reading.Reader.nearest.Goals as goal

pub returns : goal.returns
returns c = record {
  passes = pass_behind c.in_ok-row.ensures.list c.in_ok-row.ensures.kind (before_passes (anywhere _ _) c.in_ok-point.ensures.passes (pass_behind c.in_ok-rest.ensures.list c.in_ok-rest.ensures.kind (done_passes (kinds_of c.in_ok-rest.rest.now))));
  spells = rw (c.in_ok-row.ensures.list, c.in_ok-row-2.ensures.name) (a_nearest c.in_ok-row.ensures.kind (rw c.in_ok-rest.ensures.list at c.in_ok-point.ensures.spells) c.in_ok-rest.ensures.kind);
  shorter = search rules;
  of = search rules;
}

pub returns-in_err-row : goal.returns-in_err-row
returns-in_err-row c = token_missing c.from_residual.result _ c.from_residual.ensures.1 c.in_err-row.ensures.err.0 (absent c.args.tokens.now (before_finishes point_finishes (then_finishes done_finishes)) c.in_err-row.ensures.err.1)

pub returns-in_err-point : goal.returns-in_err-point
returns-in_err-point c = part_broken c.from_residual-in_err-point.result _ _ c.from_residual-in_err-point.ensures.1 (λ n f. (behind n c.in_ok-row.ensures.list c.in_ok-row.ensures.kind (before_breaks (anywhere _ _) (then_finishes done_finishes) n f))) c.in_err-point.ensures

pub returns-in_err-rest : goal.returns-in_err-rest
returns-in_err-rest c = token_missing c.from_residual-in_err-rest.result _ c.from_residual-in_err-rest.ensures.1 c.in_err-rest.ensures.err.0 (behind _ c.in_ok-row.ensures.list c.in_ok-row.ensures.kind (behind_breaks (anywhere _ _) c.in_ok-point.ensures.passes _ (absent c.in_ok-point.rest.now done_finishes c.in_err-rest.ensures.err.1)))
