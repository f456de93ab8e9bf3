use Rattle.std.proofs.Common.{◌≡◌, map, take}
use Rattle.row_groups.specs.Ends.{place_in}
use Rattle.row_groups.proofs.ends.places_of.Given as goal

abbrev pub invariant-loop-ranked : goal.invariant-loop-ranked
invariant-loop-ranked l = l.places.items ≡ map (place_in l.scale) (take l.ranked-index l.all)
