use Rattle.sgl_parser.proofs.Returns.{token_missing, part_broken}
use Rattle.std.proofs.Common.{ap, rules}
use Rattle.std.specs.Option.{is_some}
use Rattle.sgl_parser.proofs.Sequences.{then_finishes, one_finishes}
use Rattle.sgl_parser.proofs.Parts.{behind, pass_behind, absent, behind_one, pass_one, absent_one, some_comparison, sum_finishes}
use Rattle.sgl_parser.proofs.Fronts.{part_passed}
use Rattle.sgl_parser.specs.Scripts.{a_comparison}
use Rattle.sgl_parser.proofs.reading.Reader.comparison.Goals as goal

pub returns : goal.returns
returns c = record {
  passes = pass_behind c.in_ok-row.ensures.list c.in_ok-row.ensures.kind (pass_behind c.in_ok-rest.ensures.list c.in_ok-rest.ensures.kind (pass_behind c.in_ok-attr.ensures.list c.in_ok-attr.ensures.kind (pass_one c.in_ok-op.ensures.list (ap is_some c.in_ok-op.ensures.kind) (part_passed c.in_ok-right.ensures))));
  spells = rw (c.in_ok-row.ensures.list, c.in_ok-rest.ensures.list, c.in_ok-attr.ensures.list, c.in_ok-op.ensures.list, c.in_ok-row-2.ensures.name, c.in_ok-attr-2.ensures.name) (a_comparison c.in_ok-row.ensures.kind c.in_ok-rest.ensures.kind c.in_ok-attr.ensures.kind c.in_ok-op.ensures.kind c.in_ok-right.ensures.spells);
  shorter = search rules;
  of = search rules;
}

pub returns-in_err-row : goal.returns-in_err-row
returns-in_err-row c = token_missing c.from_residual.result _ c.from_residual.ensures.1 c.in_err-row.ensures.err.0 (absent c.args.tokens.now (then_finishes (then_finishes (one_finishes some_comparison sum_finishes))) c.in_err-row.ensures.err.1)

pub returns-in_err-rest : goal.returns-in_err-rest
returns-in_err-rest c = token_missing c.from_residual-in_err-rest.result _ c.from_residual-in_err-rest.ensures.1 c.in_err-rest.ensures.err.0 (behind _ c.in_ok-row.ensures.list c.in_ok-row.ensures.kind (absent c.in_ok-row.rest.now (then_finishes (one_finishes some_comparison sum_finishes)) c.in_err-rest.ensures.err.1))

pub returns-in_err-attr : goal.returns-in_err-attr
returns-in_err-attr c = token_missing c.from_residual-in_err-attr.result _ c.from_residual-in_err-attr.ensures.1 c.in_err-attr.ensures.err.0 (behind _ c.in_ok-row.ensures.list c.in_ok-row.ensures.kind (behind _ c.in_ok-rest.ensures.list c.in_ok-rest.ensures.kind (absent c.in_ok-rest.rest.now (one_finishes some_comparison sum_finishes) c.in_err-attr.ensures.err.1)))

pub returns-in_err-op : goal.returns-in_err-op
returns-in_err-op c = token_missing c.from_residual-in_err-op.result _ c.from_residual-in_err-op.ensures.1 c.in_err-op.ensures.err.0 (behind _ c.in_ok-row.ensures.list c.in_ok-row.ensures.kind (behind _ c.in_ok-rest.ensures.list c.in_ok-rest.ensures.kind (behind _ c.in_ok-attr.ensures.list c.in_ok-attr.ensures.kind (absent_one c.in_ok-attr.rest.now some_comparison sum_finishes c.in_err-op.ensures.err.1))))

pub returns-in_err-right : goal.returns-in_err-right
returns-in_err-right c = part_broken c.from_residual-in_err-right.result _ _ c.from_residual-in_err-right.ensures.1 (λ n f. (behind n c.in_ok-row.ensures.list c.in_ok-row.ensures.kind (behind n c.in_ok-rest.ensures.list c.in_ok-rest.ensures.kind (behind n c.in_ok-attr.ensures.list c.in_ok-attr.ensures.kind (behind_one n c.in_ok-op.ensures.list (ap is_some c.in_ok-op.ensures.kind) f))))) c.in_err-right.ensures
