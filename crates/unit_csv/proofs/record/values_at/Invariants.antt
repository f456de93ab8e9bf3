use Rattle.std.proofs.Common.{◌≡◌, map, take, get_or, pos}
use Rattle.unit_csv.proofs.record.values_at.Given as goal

abbrev pub invariant-loop-place : goal.invariant-loop-place
invariant-loop-place l = l.values ≡ map (λ place. get_or l.numbers place (pos 0)) (take l.place-index l.places)
