-- The sort moves the edges.
use Rattle.std.proofs.Common.{rules}
use Rattle.std.proofs.lemmas.List.Sorted.{IsNonDecreasingBy-from_sort_by_key, All-permutation}
use Rattle.area_effects.specs.declared.edge.Edge.{Edge}
use Rattle.area_effects.specs.Edges.{IsEdge}
use Rattle.area_effects.proofs.sweep.put_edges.Goals as goal

pub returns-clause-rising : goal.returns-clause-rising
returns-clause-rising c = IsNonDecreasingBy-from_sort_by_key (λ (edge : Edge). edge.place) _ c.sort_unstable_by_key.ensures.sorted (λ a r q k. search rules)

pub returns-clause-edges : goal.returns-clause-edges
returns-clause-edges c = All-permutation IsEdge _ _ c.sort_unstable_by_key.ensures.permutation c.put_in_order.ensures.each
