use Rattle.std.proofs.Common.{[], ◌+◌, ◌∙◌, ap}
use Rattle.sgl_typed.specs.Sizes.{statements_nodes, routines_nodes, statements_depth, routines_depth}
use Rattle.sgl_expand.specs.Sizes.{capped, nodes_in, depths_in, capped_nodes, capped_depths}
use Rattle.sgl_expand.proofs.Capped.{capped-right, capped-routines, capped-statements, capped-routine-depths, capped-all-depth}
use Rattle.sgl_expand.proofs.script.measure_main.Goals as goal

pub returns-clause-nodes : goal.returns-clause-nodes
returns-clause-nodes c =
    let script = c.args.script.now in
    c.measure_statements-inner.ensures.nodes
    ∙ (λ i. capped (statements_nodes ((ap nodes_in c.as_slice-2.ensures.value ∙ c.in_ok-sizes.ensures.nodes ∙ ap (capped_nodes []) c.as_slice.ensures ∙ capped-routines script.routines []) i) (c.as_slice-3.ensures i)))
    ∙ capped-statements (routines_nodes [] script.routines) script.main

pub returns-clause-depth : goal.returns-clause-depth
returns-clause-depth c =
    let script = c.args.script.now in
    c.add-depth.ensures
    ∙ ap (λ n. capped (1 + n))
    (c.measure_statements-inner.ensures.depth
    ∙ (λ i. capped (statements_depth ((ap depths_in c.as_slice-2.ensures.value ∙ c.in_ok-sizes.ensures.depths ∙ ap (capped_depths []) c.as_slice.ensures ∙ capped-routine-depths script.routines []) i) (c.as_slice-3.ensures i)))
    ∙ capped-all-depth (routines_depth [] script.routines) script.main)
    ∙ capped-right 1 (statements_depth (routines_depth [] script.routines) script.main)
