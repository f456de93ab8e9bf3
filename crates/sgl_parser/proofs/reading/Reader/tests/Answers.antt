use Rattle.std.proofs.Common.{rules}
use Rattle.sgl_parser.proofs.Returns.{part_broken}
use Rattle.sgl_parser.proofs.Sequences.{many_finishes, before_breaks, behind_breaks, before_passes}
use Rattle.sgl_parser.proofs.Parts.{test_follows}
use Rattle.sgl_parser.proofs.Listings.{first_and_more}
use Rattle.sgl_parser.specs.Scripts.{tests}
use Rattle.sgl_parser.proofs.reading.Reader.tests.Goals as goal

pub returns : goal.returns
returns c =
    let found = c.in_ok-tests.ensures.spells in
    record {
      passes = before_passes test_follows c.in_ok-first.ensures.passes c.in_ok-tests.ensures.passes;
      spells = rw (first_and_more c.new-before.ensures c.in_ok-push.ensures.ok found.1) (tests c.in_ok-first.ensures.spells found.2);
      shorter = search rules;
      of = search rules;
    }

pub returns-in_err-first : goal.returns-in_err-first
returns-in_err-first c = part_broken c.from_residual.result _ _ c.from_residual.ensures.1 (λ n f. (before_breaks test_follows many_finishes n f)) c.in_err-first.ensures

pub returns-in_err-tests : goal.returns-in_err-tests
returns-in_err-tests c = part_broken c.from_residual-in_err-tests.result _ _ c.from_residual-in_err-tests.ensures.1 (λ n f. (behind_breaks test_follows c.in_ok-first.ensures.passes n f)) c.in_err-tests.ensures
