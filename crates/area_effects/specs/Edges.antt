-- The edges of boxes, and what they add up to.
use Rattle.std.specs.Prelude.{ℕ, ℤ, pos, negsuc, neg_ℤ, ◌+ℤ◌, ◌≤◌, max, nat_lt, nat_le, ◌&&◌, Bool, if◌then◌else◌, List, [], ◌∷◌}
use Rattle.sgl_values.specs.Totals.{total}
use Rattle.area_effects.specs.declared.area_box.AreaBox.{AreaBox}
use Rattle.area_effects.specs.declared.edge.Edge.{Edge}
use Rattle.area_effects.specs.Fenwick.{IsWithin}
use Rattle.area_effects.specs.Ranks.{count_below, count_through}

-- the edge where a box opens, among points with these numbers along the axes
abbrev pub opening : List ℤ → List ℤ → AreaBox → Edge
opening xs ys area = record {
  place = count_below xs area.x1;
  low = count_below ys area.y1;
  high = max (count_through ys area.y2) (count_below ys area.y1);
  amount = area.amount;
  count = pos 1;
}

-- the edge where it closes, which takes away what the other one adds
abbrev pub closing : List ℤ → List ℤ → AreaBox → Edge
closing xs ys area = record {
  place = max (count_through xs area.x2) (count_below xs area.x1);
  low = count_below ys area.y1;
  high = max (count_through ys area.y2) (count_below ys area.y1);
  amount = neg_ℤ area.amount;
  count = negsuc 0;
}

-- both edges of each box
abbrev pub edges_of : List ℤ → List ℤ → List AreaBox → List Edge
edges_of xs ys [] = []
edges_of xs ys (area ∷ boxes) = opening xs ys area ∷ closing xs ys area ∷ edges_of xs ys boxes

-- what every edge meets
pub record IsEdge (edge : Edge) : Type 0 where
  pub order : edge.low ≤ edge.high
  pub amount : IsWithin 1000000000000 edge.amount
  pub count : IsWithin 1000000000000 edge.count

-- the edge adds to the sum at the places before this one
abbrev pub covers : Edge → ℕ → Bool
covers edge end = nat_lt edge.low end && nat_le end edge.high

-- what edges add to it
abbrev pub covered : (Edge → ℤ) → List Edge → ℕ → ℤ
covered worth edges end = total ◌+ℤ◌ (pos 0) (λ edge. if covers edge end then worth edge else pos 0) edges
