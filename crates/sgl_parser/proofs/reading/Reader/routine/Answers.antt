use Rattle.std.proofs.Common.{rules}
use Rattle.sgl_parser.proofs.Returns.{part_broken}
use Rattle.sgl_parser.proofs.Sequences.{before_breaks, behind_breaks, before_passes}
use Rattle.sgl_parser.proofs.Parts.{block_finishes, anywhere}
use Rattle.sgl_parser.specs.Scripts.{a_routine}
use Rattle.sgl_parser.proofs.reading.Reader.routine.Goals as goal

pub returns : goal.returns
returns c = record {
  passes = before_passes (anywhere _ _) c.in_ok-heading.ensures.passes c.in_ok-body.ensures.passes;
  spells = a_routine c.in_ok-heading.ensures.spells c.in_ok-body.ensures.spells;
  shorter = search rules;
  of = search rules;
}

pub returns-in_err-heading : goal.returns-in_err-heading
returns-in_err-heading c = part_broken c.from_residual.result _ _ c.from_residual.ensures.1 (λ n f. (before_breaks (anywhere _ _) block_finishes n f)) c.in_err-heading.ensures

pub returns-in_err-body : goal.returns-in_err-body
returns-in_err-body c = part_broken c.from_residual-in_err-body.result _ _ c.from_residual-in_err-body.ensures.1 (λ n f. (behind_breaks (anywhere _ _) c.in_ok-heading.ensures.passes n f)) c.in_err-body.ensures
