-- The places so far are kept.
use Rattle.std.proofs.Common.{◌≡◌, take}
use Rattle.range_aggregate.proofs.heights.narrowed.Given as goal

abbrev pub invariant-loop-place : goal.invariant-loop-place
invariant-loop-place l = l.narrow.items ≡ take l.place-index l.places
