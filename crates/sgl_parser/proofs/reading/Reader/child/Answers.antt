use Rattle.std.proofs.Common.{rules}
use Rattle.sgl_parser.proofs.Returns.{token_missing, part_broken}
use Rattle.sgl_parser.proofs.Sequences.{done_finishes, then_finishes, before_finishes, many_finishes, before_breaks, behind_breaks, before_passes, done_passes}
use Rattle.sgl_parser.proofs.Parts.{behind, pass_behind, absent, expression_finishes, birth_follows, writes_follow}
use Rattle.sgl_parser.proofs.Fronts.{part_passed}
use Rattle.sgl_parser.specs.Shape.{kinds_of}
use Rattle.sgl_parser.specs.Scripts.{a_child}
use Rattle.sgl_parser.proofs.reading.Reader.child.Goals as goal

pub returns : goal.returns
returns c = record {
  passes = pass_behind c.in_ok-rest.ensures.list c.in_ok-rest.ensures.kind (before_passes (birth_follows _ _) (part_passed c.in_ok-cond.ensures) (pass_behind c.in_ok-rest-2.ensures.list c.in_ok-rest-2.ensures.kind (before_passes (writes_follow _) c.in_ok-rules.ensures.passes (pass_behind c.in_ok-rest-3.ensures.list c.in_ok-rest-3.ensures.kind (done_passes (kinds_of c.in_ok-rest-3.rest.now))))));
  spells = rw c.in_ok-rest.ensures.list (a_child c.in_ok-rest.ensures.kind (rw c.in_ok-rest-2.ensures.list at c.in_ok-cond.ensures.spells) c.in_ok-rest-2.ensures.kind (rw c.in_ok-rest-3.ensures.list at c.in_ok-rules.ensures.spells) c.in_ok-rest-3.ensures.kind);
  shorter = search rules;
  of = search rules;
}

pub returns-in_err-rest : goal.returns-in_err-rest
returns-in_err-rest c = token_missing c.from_residual.result _ c.from_residual.ensures.1 c.in_err-rest.ensures.err.0 (absent c.args.tokens.now (before_finishes expression_finishes (then_finishes (before_finishes many_finishes (then_finishes done_finishes)))) c.in_err-rest.ensures.err.1)

pub returns-in_err-cond : goal.returns-in_err-cond
returns-in_err-cond c = part_broken c.from_residual-in_err-cond.result _ _ c.from_residual-in_err-cond.ensures.1 (λ n f. (behind n c.in_ok-rest.ensures.list c.in_ok-rest.ensures.kind (before_breaks (birth_follows _ _) (then_finishes (before_finishes many_finishes (then_finishes done_finishes))) n f))) c.in_err-cond.ensures

pub returns-in_err-rest-2 : goal.returns-in_err-rest-2
returns-in_err-rest-2 c = token_missing c.from_residual-in_err-rest-2.result _ c.from_residual-in_err-rest-2.ensures.1 c.in_err-rest-2.ensures.err.0 (behind _ c.in_ok-rest.ensures.list c.in_ok-rest.ensures.kind (behind_breaks (birth_follows _ _) (part_passed c.in_ok-cond.ensures) _ (absent c.in_ok-cond.rest.now (before_finishes many_finishes (then_finishes done_finishes)) c.in_err-rest-2.ensures.err.1)))

pub returns-in_err-rules : goal.returns-in_err-rules
returns-in_err-rules c = part_broken c.from_residual-in_err-rules.result _ _ c.from_residual-in_err-rules.ensures.1 (λ n f. (behind n c.in_ok-rest.ensures.list c.in_ok-rest.ensures.kind (behind_breaks (birth_follows _ _) (part_passed c.in_ok-cond.ensures) n (behind n c.in_ok-rest-2.ensures.list c.in_ok-rest-2.ensures.kind (before_breaks (writes_follow _) (then_finishes done_finishes) n f))))) c.in_err-rules.ensures

pub returns-in_err-rest-3 : goal.returns-in_err-rest-3
returns-in_err-rest-3 c = token_missing c.from_residual-in_err-rest-3.result _ c.from_residual-in_err-rest-3.ensures.1 c.in_err-rest-3.ensures.err.0 (behind _ c.in_ok-rest.ensures.list c.in_ok-rest.ensures.kind (behind_breaks (birth_follows _ _) (part_passed c.in_ok-cond.ensures) _ (behind _ c.in_ok-rest-2.ensures.list c.in_ok-rest-2.ensures.kind (behind_breaks (writes_follow _) c.in_ok-rules.ensures.passes _ (absent c.in_ok-rules.rest.now done_finishes c.in_err-rest-3.ensures.err.1)))))
