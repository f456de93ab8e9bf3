use Rattle.std.proofs.Common.{◌∙◌, ap, sym}
use Rattle.sgl_typed.specs.Sizes.{nodes_of}
use Rattle.sgl_typed.proofs.Equations.{nodes-Binary}
use Rattle.sgl_expand.specs.Sizes.{capped}
use Rattle.sgl_expand.proofs.Capped.{one-and-two}
use Rattle.sgl_expand.proofs.sizes.+expr_nodes.Goals as goal

pub count_expr-returns-in-Binary : goal.count_expr-returns-in-Binary
count_expr-returns-in-Binary t c =
    one-and-two (nodes_of c.in-Binary.left) (nodes_of c.in-Binary.right) c.count_expr-in-Binary.result c.count_expr-in-Binary-2.result c.add-in-Binary.result c.add-in-Binary-2.result
    (c.count_expr-in-Binary.ensures ∙ ap (λ e. capped (nodes_of e)) c.get-in-Binary.ensures)
    (c.count_expr-in-Binary-2.ensures ∙ ap (λ e. capped (nodes_of e)) c.get-in-Binary-2.ensures)
    c.add-in-Binary.ensures c.add-in-Binary-2.ensures
    ∙ sym (ap (λ e. capped (nodes_of e)) c.in-Binary.is ∙ ap capped (nodes-Binary c.in-Binary.op c.in-Binary.left c.in-Binary.right c.in-Binary.place))
