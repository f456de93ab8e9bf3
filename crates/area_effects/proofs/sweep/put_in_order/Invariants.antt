-- The edges of the boxes so far.
use Rattle.std.proofs.Common.{◌≡◌, ◌≤◌, take}
use Rattle.std.specs.Prelude.{All, vec_capacity}
use Rattle.area_effects.specs.Edges.{IsEdge, edges_of}
use Rattle.area_effects.proofs.sweep.put_in_order.Given as goal

abbrev pub invariant-loop-area : goal.invariant-loop-area
invariant-loop-area l = record {
  edges : l.edges.items ≡ edges_of l.xs.numbers.items l.ys.numbers.items (take l.area-index l.boxes);
  each : All IsEdge l.edges.items;
  room : vec_capacity l.initial.edges ≤ vec_capacity l.edges;
}
