use Rattle.std.proofs.Common.{rules}
use Rattle.sgl_parser.proofs.Returns.{token_missing, part_broken}
use Rattle.sgl_parser.proofs.Sequences.{done_finishes, then_finishes, before_finishes, maybe_finishes, before_breaks, behind_breaks, before_passes, done_passes}
use Rattle.sgl_parser.proofs.Parts.{behind, pass_behind, absent, expression_finishes, amount_follows, shut_follows}
use Rattle.sgl_parser.proofs.Fronts.{part_passed}
use Rattle.sgl_parser.specs.Shape.{kinds_of}
use Rattle.sgl_parser.specs.Scripts.{a_write}
use Rattle.sgl_parser.proofs.reading.Reader.write.Goals as goal

pub returns : goal.returns
returns c = record {
  passes = pass_behind c.in_ok-attr.ensures.list c.in_ok-attr.ensures.kind (pass_behind c.in_ok-rest.ensures.list c.in_ok-rest.ensures.kind (before_passes (amount_follows _) (part_passed c.in_ok-value.ensures) (before_passes (shut_follows _ _ _) c.in_ok-by.ensures.passes (pass_behind c.in_ok-rest-2.ensures.list c.in_ok-rest-2.ensures.kind (done_passes (kinds_of c.in_ok-rest-2.rest.now))))));
  spells = rw (c.in_ok-attr.ensures.list, c.in_ok-rest.ensures.list, c.in_ok-attr-2.ensures.name) (a_write c.in_ok-attr.ensures.kind c.in_ok-rest.ensures.kind c.in_ok-value.ensures.spells (rw c.in_ok-rest-2.ensures.list at c.in_ok-by.ensures.spells) c.in_ok-rest-2.ensures.kind);
  shorter = search rules;
  of = search rules;
}

pub returns-in_err-attr : goal.returns-in_err-attr
returns-in_err-attr c = token_missing c.from_residual.result _ c.from_residual.ensures.1 c.in_err-attr.ensures.err.0 (absent c.args.tokens.now (then_finishes (before_finishes expression_finishes (before_finishes maybe_finishes (then_finishes done_finishes)))) c.in_err-attr.ensures.err.1)

pub returns-in_err-rest : goal.returns-in_err-rest
returns-in_err-rest c = token_missing c.from_residual-in_err-rest.result _ c.from_residual-in_err-rest.ensures.1 c.in_err-rest.ensures.err.0 (behind _ c.in_ok-attr.ensures.list c.in_ok-attr.ensures.kind (absent c.in_ok-attr.rest.now (before_finishes expression_finishes (before_finishes maybe_finishes (then_finishes done_finishes))) c.in_err-rest.ensures.err.1))

pub returns-in_err-value : goal.returns-in_err-value
returns-in_err-value c = part_broken c.from_residual-in_err-value.result _ _ c.from_residual-in_err-value.ensures.1 (λ n f. (behind n c.in_ok-attr.ensures.list c.in_ok-attr.ensures.kind (behind n c.in_ok-rest.ensures.list c.in_ok-rest.ensures.kind (before_breaks (amount_follows _) (before_finishes maybe_finishes (then_finishes done_finishes)) n f)))) c.in_err-value.ensures

pub returns-in_err-by : goal.returns-in_err-by
returns-in_err-by c = part_broken c.from_residual-in_err-by.result _ _ c.from_residual-in_err-by.ensures.1 (λ n f. (behind n c.in_ok-attr.ensures.list c.in_ok-attr.ensures.kind (behind n c.in_ok-rest.ensures.list c.in_ok-rest.ensures.kind (behind_breaks (amount_follows _) (part_passed c.in_ok-value.ensures) n (before_breaks (shut_follows _ _ _) (then_finishes done_finishes) n f))))) c.in_err-by.ensures

pub returns-in_err-rest-2 : goal.returns-in_err-rest-2
returns-in_err-rest-2 c = token_missing c.from_residual-in_err-rest-2.result _ c.from_residual-in_err-rest-2.ensures.1 c.in_err-rest-2.ensures.err.0 (behind _ c.in_ok-attr.ensures.list c.in_ok-attr.ensures.kind (behind _ c.in_ok-rest.ensures.list c.in_ok-rest.ensures.kind (behind_breaks (amount_follows _) (part_passed c.in_ok-value.ensures) _ (behind_breaks (shut_follows _ _ _) c.in_ok-by.ensures.passes _ (absent c.in_ok-by.rest.now done_finishes c.in_err-rest-2.ensures.err.1)))))
