use Rattle.std.proofs.Common.{rules}
use Rattle.sgl_parser.proofs.Returns.{token_missing, part_broken}
use Rattle.sgl_parser.proofs.Sequences.{done_finishes, then_finishes, before_finishes, before_breaks, behind_breaks, before_passes, done_passes}
use Rattle.sgl_parser.proofs.Parts.{behind, pass_behind, absent, sum_finishes, anywhere, radius_follows}
use Rattle.sgl_parser.proofs.Fronts.{part_passed}
use Rattle.sgl_parser.specs.Shape.{kinds_of}
use Rattle.sgl_parser.specs.Scripts.{a_circle}
use Rattle.sgl_parser.proofs.reading.Reader.circle.Goals as goal

pub returns : goal.returns
returns c = record {
  passes = before_passes (anywhere _ _) c.in_ok-point.ensures.passes (pass_behind c.in_ok-rest.ensures.list c.in_ok-rest.ensures.kind (before_passes (radius_follows _) (part_passed c.in_ok-radius.ensures) (pass_behind c.in_ok-rest-2.ensures.list c.in_ok-rest-2.ensures.kind (done_passes (kinds_of c.in_ok-rest-2.rest.now)))));
  spells = a_circle (rw c.in_ok-rest.ensures.list at c.in_ok-point.ensures.spells) c.in_ok-rest.ensures.kind (rw c.in_ok-rest-2.ensures.list at c.in_ok-radius.ensures.spells) c.in_ok-rest-2.ensures.kind;
  shorter = search rules;
  of = search rules;
}

pub returns-in_err-point : goal.returns-in_err-point
returns-in_err-point c = part_broken c.from_residual.result _ _ c.from_residual.ensures.1 (λ n f. (before_breaks (anywhere _ _) (then_finishes (before_finishes sum_finishes (then_finishes done_finishes))) n f)) c.in_err-point.ensures

pub returns-in_err-rest : goal.returns-in_err-rest
returns-in_err-rest c = token_missing c.from_residual-in_err-rest.result _ c.from_residual-in_err-rest.ensures.1 c.in_err-rest.ensures.err.0 (behind_breaks (anywhere _ _) c.in_ok-point.ensures.passes _ (absent c.in_ok-point.rest.now (before_finishes sum_finishes (then_finishes done_finishes)) c.in_err-rest.ensures.err.1))

pub returns-in_err-radius : goal.returns-in_err-radius
returns-in_err-radius c = part_broken c.from_residual-in_err-radius.result _ _ c.from_residual-in_err-radius.ensures.1 (λ n f. (behind_breaks (anywhere _ _) c.in_ok-point.ensures.passes n (behind n c.in_ok-rest.ensures.list c.in_ok-rest.ensures.kind (before_breaks (radius_follows _) (then_finishes done_finishes) n f)))) c.in_err-radius.ensures

pub returns-in_err-rest-2 : goal.returns-in_err-rest-2
returns-in_err-rest-2 c = token_missing c.from_residual-in_err-rest-2.result _ c.from_residual-in_err-rest-2.ensures.1 c.in_err-rest-2.ensures.err.0 (behind_breaks (anywhere _ _) c.in_ok-point.ensures.passes _ (behind _ c.in_ok-rest.ensures.list c.in_ok-rest.ensures.kind (behind_breaks (radius_follows _) (part_passed c.in_ok-radius.ensures) _ (absent c.in_ok-radius.rest.now done_finishes c.in_err-rest-2.ensures.err.1))))
