use Rattle.std.proofs.Common.{rules}
use Rattle.sgl_parser.proofs.Returns.{token_missing, part_broken}
use Rattle.sgl_parser.proofs.Sequences.{done_finishes, then_finishes, before_breaks, behind_breaks, before_passes, done_passes}
use Rattle.sgl_parser.proofs.Parts.{pass_behind, absent, value_follows}
use Rattle.sgl_parser.proofs.Fronts.{part_passed}
use Rattle.sgl_parser.specs.Shape.{kinds_of}
use Rattle.sgl_parser.specs.Statements.{a_value}
use Rattle.sgl_parser.proofs.reading.Reader.value.Goals as goal

pub returns : goal.returns
returns c = record {
  passes = before_passes (value_follows _) (part_passed c.in_ok-value.ensures) (pass_behind c.in_ok-rest.ensures.list c.in_ok-rest.ensures.kind (done_passes (kinds_of c.in_ok-rest.rest.now)));
  spells = a_value (rw c.in_ok-rest.ensures.list at c.in_ok-value.ensures.spells) c.in_ok-rest.ensures.kind;
  shorter = search rules;
  of = search rules;
}

pub returns-in_err-value : goal.returns-in_err-value
returns-in_err-value c = part_broken c.from_residual.result _ _ c.from_residual.ensures.1 (λ n f. (before_breaks (value_follows _) (then_finishes done_finishes) n f)) c.in_err-value.ensures

pub returns-in_err-rest : goal.returns-in_err-rest
returns-in_err-rest c = token_missing c.from_residual-in_err-rest.result _ c.from_residual-in_err-rest.ensures.1 c.in_err-rest.ensures.err.0 (behind_breaks (value_follows _) (part_passed c.in_ok-value.ensures) _ (absent c.in_ok-value.rest.now done_finishes c.in_err-rest.ensures.err.1))
