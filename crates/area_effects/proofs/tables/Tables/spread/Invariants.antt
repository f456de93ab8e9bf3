-- The spread of the points whose spots came before this one is put.
use Rattle.std.proofs.Common.{◌≡◌}
use Rattle.area_effects.specs.Tables.{IsSpreading}
use Rattle.area_effects.proofs.tables.Tables.spread.Given as goal

abbrev pub invariant-loop-spot : goal.invariant-loop-spot
invariant-loop-spot l = record {
  spreading : IsSpreading l.layout l.boxes l.spot-index l.self;
  points : l.self.points ≡ l.initial.self.points;
  boxes : l.self.boxes ≡ l.initial.self.boxes;
}
