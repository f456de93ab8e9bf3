-- The spots of the points so far.
use Rattle.area_effects.specs.Layouts.{AreFirstSpots}
use Rattle.area_effects.proofs.layout.spots_by_place.Given as goal

abbrev pub invariant-loop-number : goal.invariant-loop-number
invariant-loop-number l = AreFirstSpots l.xs.numbers.items l.ys.numbers.items l.points l.number l.spots.items
