-- What a sweep keeps, and how it moves.
use Rattle.std.specs.Prelude.{◌≡◌, ℕ, ◌<◌, ◌≤◌, length, take, drop, All}
use Rattle.std.specs.List.Sorted.{IsNonDecreasingBy}
use Rattle.area_effects.specs.declared.sweep.Sweep.{Sweep}
use Rattle.area_effects.specs.Edges.{IsEdge, covered}
use Rattle.area_effects.specs.Fenwick.{StandsFor}
use Rattle.area_effects.specs.Rooms.{HasRoom}

-- what every sweep meets: the trees stand for what the passed edges add up to
pub record IsSweep (sweep : Sweep) : Type 0 where
  pub few : length sweep.edges.items ≤ 131072
  pub few_ranks : length sweep.amounts.nodes.items ≤ 65537
  pub same_ranks : length sweep.counts.nodes.items ≡ length sweep.amounts.nodes.items
  pub edges : All IsEdge sweep.edges.items
  pub rising : IsNonDecreasingBy (λ edge. edge.place) sweep.edges.items
  pub last : sweep.next ≤ length sweep.edges.items
  pub amounts : StandsFor (covered (λ edge. edge.amount) (take sweep.next sweep.edges.items)) sweep.amounts.nodes.items
  pub counts : StandsFor (covered (λ edge. edge.count) (take sweep.next sweep.edges.items)) sweep.counts.nodes.items

-- the sweep has gone on over the same edges
pub record GoesOn (old new : Sweep) : Type 0 where
  pub sweep : IsSweep new
  pub edges : new.edges.items ≡ old.edges.items
  pub ranks : length new.amounts.nodes.items ≡ length old.amounts.nodes.items
  pub room : (points boxes : ℕ) → HasRoom points boxes old → HasRoom points boxes new

-- the passed edges are those up to this place
pub record StandsAt (place : ℕ) (sweep : Sweep) : Type 0 where
  pub passed : All (λ edge. edge.place ≤ place) (take sweep.next sweep.edges.items)
  pub left : All (λ edge. place < edge.place) (drop sweep.next sweep.edges.items)
