use Rattle.std.proofs.Common.{◌≡◌, ◌+◌, ◌≤◌, max, drop}
use Rattle.sgl_typed.specs.Sizes.{statements_nodes, statements_depth}
use Rattle.sgl_expand.specs.Sizes.{capped, nodes_in, depths_in}
use Rattle.sgl_expand.proofs.sizes.+statement_sizes.Given as goal

abbrev pub invariant-measure_statements-loop-statement : goal.invariant-measure_statements-loop-statement
invariant-measure_statements-loop-statement l = record {
  few : l.nodes ≤ 18446744073709551615;
  nodes : capped (l.nodes + statements_nodes (nodes_in l.sizes) (drop l.statement-index l.statements)) ≡ capped (statements_nodes (nodes_in l.sizes) l.statements);
  low : l.depth ≤ 18446744073709551615;
  depth : capped (max l.depth (statements_depth (depths_in l.sizes) (drop l.statement-index l.statements))) ≡ capped (statements_depth (depths_in l.sizes) l.statements);
}
