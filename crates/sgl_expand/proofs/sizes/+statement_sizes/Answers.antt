use Rattle.std.proofs.Common.{◌∙◌, ap, sym}
use Rattle.sgl_typed.specs.Sizes.{nodes_of, statement_nodes, statements_nodes, statement_depth, statements_depth}
use Rattle.sgl_typed.proofs.Equations.{nodes-If, depth-If}
use Rattle.sgl_expand.specs.Sizes.{capped, nodes_in, depths_in}
use Rattle.sgl_expand.proofs.Capped.{of-if, one-and-deeper}
use Rattle.sgl_expand.proofs.sizes.+statement_sizes.Goals as goal

pub measure_statement-returns-in-If-clause-nodes : goal.measure_statement-returns-in-If-clause-nodes
measure_statement-returns-in-If-clause-nodes t c =
    let sizes = nodes_in c.args.sizes.now in
    of-if (nodes_of c.in-If.cond) (statements_nodes sizes c.in-If.yes) (statements_nodes sizes c.in-If.no)
    c.count_expr-in-If.result c.measure_statements-taken.result.nodes c.measure_statements-other.result.nodes c.add-in-If.result c.add-blocks.result c.add-in-If-2.result
    c.count_expr-in-If.ensures
    (c.measure_statements-taken.ensures.nodes ∙ ap (λ ss. capped (statements_nodes sizes ss)) c.as_slice.ensures)
    (c.measure_statements-other.ensures.nodes ∙ ap (λ ss. capped (statements_nodes sizes ss)) c.as_slice-in-If.ensures)
    c.add-in-If.ensures c.add-blocks.ensures c.add-in-If-2.ensures
    ∙ sym (ap (λ s. capped (statement_nodes sizes s)) c.in-If.is ∙ ap capped (nodes-If sizes c.in-If.cond c.in-If.place c.in-If.yes c.in-If.no))

pub measure_statement-returns-in-If-clause-depth : goal.measure_statement-returns-in-If-clause-depth
measure_statement-returns-in-If-clause-depth t c =
    let depths = depths_in c.args.sizes.now in
    one-and-deeper (statements_depth depths c.in-If.yes) (statements_depth depths c.in-If.no)
    c.measure_statements-taken.result.depth c.measure_statements-other.result.depth c.greater-deeper.result c.add-in-If-3.result
    (c.measure_statements-taken.ensures.depth ∙ ap (λ ss. capped (statements_depth depths ss)) c.as_slice.ensures)
    (c.measure_statements-other.ensures.depth ∙ ap (λ ss. capped (statements_depth depths ss)) c.as_slice-in-If.ensures)
    c.greater-deeper.ensures c.add-in-If-3.ensures
    ∙ sym (ap (λ s. capped (statement_depth depths s)) c.in-If.is ∙ ap capped (depth-If depths c.in-If.cond c.in-If.place c.in-If.yes c.in-If.no))
