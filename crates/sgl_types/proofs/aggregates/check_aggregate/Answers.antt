use Rattle.std.proofs.Common.{ap, ◌∙◌, ◌==◌}
use Rattle.sgl_types.specs.declared.bodies.Part.TheVariants.{Test as TestSide}
use Rattle.sgl_types.specs.declared.finding.TypeKind.TheVariants.{TooMany}
use Rattle.sgl_types.specs.Findings.{noted}
use Rattle.sgl_types.specs.Items.{setting_of, scope_in, param_locals}
use Rattle.sgl_types.specs.Rules.{fault_if}
use Rattle.sgl_types.proofs.Arms.{aggregate-found}
use Rattle.sgl_types.proofs.aggregates.check_aggregate.Goals as goal

pub returns-clause-found : goal.returns-clause-found
returns-clause-found c =
    let g = setting_of c.args.context.now in
    aggregate-found g (scope_in g TestSide c.unit_of.result.now c.as_str.result.now c.in_ok-locals.locals) c.args.name.now c.args.params.now c.args.fold.now c.args.tests.now c.args.otherwise.now c.args.found.now
    (λ i. scope_in g TestSide (c.unit_of.ensures i) (c.as_str.ensures i) ((c.in_ok-locals.ensures ∙ ap (param_locals 0) c.after_unit-behind.ensures) i))
    c.in_ok-check_definition.ensures
    (c.note_if.ensures ∙ ap (λ n. noted c.check_definition.new.found (fault_if (n == 64) TooMany c.args.name.now.place)) c.len-is_full.ensures)
    c.check_row.ensures c.in_ok-attr.ensures.found c.check_else-otherwise.ensures.found c.in_ok-tests.ensures.found
