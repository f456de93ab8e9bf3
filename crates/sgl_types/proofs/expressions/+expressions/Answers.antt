use Rattle.std.proofs.Common.{◌++◌, ap, map, length, bytes_eq, ◌∙◌}
use Rattle.sgl_typed.specs.declared.script.Kind.TheVariants.{Numeric}
use Rattle.sgl_typed.specs.declared.script.TExpr.TheVariants as made
use Rattle.sgl_types.specs.declared.finding.TypeKind.TheVariants.{UnknownName}
use Rattle.sgl_types.specs.Findings.{noted}
use Rattle.sgl_types.specs.Scope.{scope_at}
use Rattle.sgl_types.specs.Faults.{operand_faults, operand_kind, numbers_faults, call_faults}
use Rattle.sgl_types.specs.Rules.{fault_unless}
use Rattle.sgl_types.specs.Typed.{typed}
use Rattle.sgl_types.proofs.Arms.{found-by, found-more, made-by, made-more, then}
use Rattle.sgl_types.proofs.Equations.{faults-Neg, faults-Not, faults-Binary, faults-Call, typed-Neg, typed-Not, typed-Binary, typed-Call}
use Rattle.sgl_types.proofs.expressions.+expressions.Goals as goal

pub check_expr-returns-in_ok-args-in-Call : goal.check_expr-returns-in_ok-args-in-Call
check_expr-returns-in_ok-args-in-Call t c =
    let s = scope_at c.args.at.now in
    let unit = fault_unless (bytes_eq c.in-Call.unit.text s.unit) UnknownName c.in-Call.unit.place in
    let names = c.in_ok-agg-in-Call.ensures.found ∙ ap (λ n. noted c.args.found.now (call_faults s c.in-Call.name n ++ unit)) c.len.ensures in
    let args = c.in_ok-args-in-Call.ensures.found ∙ ap (λ es. noted c.check_call.new.found (numbers_faults s es)) c.as_slice.ensures in
    record {
      made = made-by s c.in-Call.is (typed-Call s c.in-Call.name c.in-Call.unit c.in-Call.args)
          (λ i. made.Agg record { agg = c.in_ok-agg-in-Call.ensures.number i; args = (c.in_ok-args-in-Call.ensures.made ∙ ap (map (typed s)) c.as_slice.ensures) i; place = c.in-Call.name.place });
      found = found-by s c.args.found.now c.in-Call.is (faults-Call s c.in-Call.name c.in-Call.unit c.in-Call.args)
          (then c.args.found.now (call_faults s c.in-Call.name (length c.in-Call.args) ++ unit) (numbers_faults s c.in-Call.args) names args);
    }

pub check_expr-returns-in_ok-inner-in-Neg : goal.check_expr-returns-in_ok-inner-in-Neg
check_expr-returns-in_ok-inner-in-Neg t c = record {
  made = made-by (scope_at c.args.at.now) c.in-Neg.is (typed-Neg _ c.in-Neg.inner c.in-Neg.place) (ap made.Neg c.in_ok-inner-in-Neg.ensures.made);
  found = found-by (scope_at c.args.at.now) c.args.found.now c.in-Neg.is (faults-Neg _ c.in-Neg.inner c.in-Neg.place) c.in_ok-inner-in-Neg.ensures.found;
}

pub check_expr-returns-in_ok-inner-in-Not : goal.check_expr-returns-in_ok-inner-in-Not
check_expr-returns-in_ok-inner-in-Not t c = record {
  made = made-by (scope_at c.args.at.now) c.in-Not.is (typed-Not _ c.in-Not.inner c.in-Not.place) (ap made.Not c.in_ok-inner-in-Not.ensures.made);
  found = found-by (scope_at c.args.at.now) c.args.found.now c.in-Not.is (faults-Not _ c.in-Not.inner c.in-Not.place) c.in_ok-inner-in-Not.ensures.found;
}

pub check_expr-returns-in_ok-right-in-Binary : goal.check_expr-returns-in_ok-right-in-Binary
check_expr-returns-in_ok-right-in-Binary t c =
    let s = scope_at c.args.at.now in
    let wanted = c.operand_kind-wanted.ensures in
    let left = c.in_ok-left-in-Binary.ensures.found ∙ ap (λ k. noted c.args.found.now (operand_faults k s c.in-Binary.left)) wanted in
    let right = c.in_ok-right-in-Binary.ensures.found ∙ ap (λ k. noted c.check_operand-in-Binary.new.found (operand_faults k s c.in-Binary.right)) wanted in
    record {
      made = made-by s c.in-Binary.is (typed-Binary _ c.in-Binary.op c.in-Binary.left c.in-Binary.right c.in-Binary.place)
          (c.operation.ensures ∙ (λ i. made.Binary c.in-Binary.op (c.in_ok-left-in-Binary.ensures.made i) (c.in_ok-right-in-Binary.ensures.made i) c.in-Binary.place));
      found = found-by s c.args.found.now c.in-Binary.is (faults-Binary _ c.in-Binary.op c.in-Binary.left c.in-Binary.right c.in-Binary.place)
          (then c.args.found.now (operand_faults (operand_kind c.in-Binary.op) s c.in-Binary.left) (operand_faults (operand_kind c.in-Binary.op) s c.in-Binary.right) left right);
    }

pub check_numbers-loop-expr-preserved : goal.check_numbers-loop-expr-preserved
check_numbers-loop-expr-preserved t c = (
  made-more (typed (scope_at c.args.at.now)) c.args.exprs.now c.loop-expr.expr-index c.expr-item.result c.loop-expr-test.true c.expr-item.is c.in_ok-check_wanted.ensures.made c.in_ok-push.ensures.ok c.loop-expr.invariant.0,
  found-more (operand_faults Numeric (scope_at c.args.at.now)) c.args.exprs.now c.loop-expr.expr-index c.expr-item.result c.loop-expr.found c.loop-expr-test.true c.expr-item.is c.in_ok-check_wanted.ensures.found c.loop-expr.invariant.1,
)
