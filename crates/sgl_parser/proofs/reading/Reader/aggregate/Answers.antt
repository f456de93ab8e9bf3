use Rattle.std.proofs.Common.{rules}
use Rattle.sgl_parser.proofs.Returns.{token_missing, part_broken}
use Rattle.sgl_parser.proofs.Sequences.{done_finishes, then_finishes, before_finishes, maybe_finishes, before_breaks, behind_breaks, before_passes, done_passes}
use Rattle.sgl_parser.proofs.Parts.{behind, pass_behind, absent, fold_finishes, anywhere, shut_follows, tests_follow}
use Rattle.sgl_parser.specs.Shape.{kinds_of}
use Rattle.sgl_parser.specs.Scripts.{an_aggregate}
use Rattle.sgl_parser.proofs.reading.Reader.aggregate.Goals as goal

pub returns : goal.returns
returns c = record {
  passes = before_passes (anywhere _ _) c.in_ok-heading.ensures.passes (pass_behind c.in_ok-rest.ensures.list c.in_ok-rest.ensures.kind (before_passes (anywhere _ _) c.in_ok-fold.ensures.passes (before_passes (tests_follow _) c.in_ok-tests.ensures.passes (before_passes (shut_follows _ _ _) c.in_ok-otherwise.ensures.passes (pass_behind c.in_ok-rest-2.ensures.list c.in_ok-rest-2.ensures.kind (done_passes (kinds_of c.in_ok-rest-2.rest.now)))))));
  spells = an_aggregate (rw c.in_ok-rest.ensures.list at c.in_ok-heading.ensures.spells) c.in_ok-rest.ensures.kind c.in_ok-fold.ensures.spells c.in_ok-tests.ensures.spells (rw c.in_ok-rest-2.ensures.list at c.in_ok-otherwise.ensures.spells) c.in_ok-rest-2.ensures.kind;
  shorter = search rules;
  of = search rules;
}

pub returns-in_err-heading : goal.returns-in_err-heading
returns-in_err-heading c = part_broken c.from_residual.result _ _ c.from_residual.ensures.1 (λ n f. (before_breaks (anywhere _ _) (then_finishes (before_finishes fold_finishes (before_finishes maybe_finishes (before_finishes maybe_finishes (then_finishes done_finishes))))) n f)) c.in_err-heading.ensures

pub returns-in_err-rest : goal.returns-in_err-rest
returns-in_err-rest c = token_missing c.from_residual-in_err-rest.result _ c.from_residual-in_err-rest.ensures.1 c.in_err-rest.ensures.err.0 (behind_breaks (anywhere _ _) c.in_ok-heading.ensures.passes _ (absent c.in_ok-heading.rest.now (before_finishes fold_finishes (before_finishes maybe_finishes (before_finishes maybe_finishes (then_finishes done_finishes)))) c.in_err-rest.ensures.err.1))

pub returns-in_err-fold : goal.returns-in_err-fold
returns-in_err-fold c = part_broken c.from_residual-in_err-fold.result _ _ c.from_residual-in_err-fold.ensures.1 (λ n f. (behind_breaks (anywhere _ _) c.in_ok-heading.ensures.passes n (behind n c.in_ok-rest.ensures.list c.in_ok-rest.ensures.kind (before_breaks (anywhere _ _) (before_finishes maybe_finishes (before_finishes maybe_finishes (then_finishes done_finishes))) n f)))) c.in_err-fold.ensures

pub returns-in_err-tests : goal.returns-in_err-tests
returns-in_err-tests c = part_broken c.from_residual-in_err-tests.result _ _ c.from_residual-in_err-tests.ensures.1 (λ n f. (behind_breaks (anywhere _ _) c.in_ok-heading.ensures.passes n (behind n c.in_ok-rest.ensures.list c.in_ok-rest.ensures.kind (behind_breaks (anywhere _ _) c.in_ok-fold.ensures.passes n (before_breaks (tests_follow _) (before_finishes maybe_finishes (then_finishes done_finishes)) n f))))) c.in_err-tests.ensures

pub returns-in_err-otherwise : goal.returns-in_err-otherwise
returns-in_err-otherwise c = part_broken c.from_residual-in_err-otherwise.result _ _ c.from_residual-in_err-otherwise.ensures.1 (λ n f. (behind_breaks (anywhere _ _) c.in_ok-heading.ensures.passes n (behind n c.in_ok-rest.ensures.list c.in_ok-rest.ensures.kind (behind_breaks (anywhere _ _) c.in_ok-fold.ensures.passes n (behind_breaks (tests_follow _) c.in_ok-tests.ensures.passes n (before_breaks (shut_follows _ _ _) (then_finishes done_finishes) n f)))))) c.in_err-otherwise.ensures

pub returns-in_err-rest-2 : goal.returns-in_err-rest-2
returns-in_err-rest-2 c = token_missing c.from_residual-in_err-rest-2.result _ c.from_residual-in_err-rest-2.ensures.1 c.in_err-rest-2.ensures.err.0 (behind_breaks (anywhere _ _) c.in_ok-heading.ensures.passes _ (behind _ c.in_ok-rest.ensures.list c.in_ok-rest.ensures.kind (behind_breaks (anywhere _ _) c.in_ok-fold.ensures.passes _ (behind_breaks (tests_follow _) c.in_ok-tests.ensures.passes _ (behind_breaks (shut_follows _ _ _) c.in_ok-otherwise.ensures.passes _ (absent c.in_ok-otherwise.rest.now done_finishes c.in_err-rest-2.ensures.err.1))))))
