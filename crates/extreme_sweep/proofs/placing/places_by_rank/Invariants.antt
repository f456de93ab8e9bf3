-- The ranks so far have their places.
use Rattle.std.proofs.Common.{◌≡◌, ◌<◌, ℕ, length, get_or}
use Rattle.extreme_sweep.specs.Laying.{AreNumbered}
use Rattle.extreme_sweep.proofs.placing.places_by_rank.Given as goal

abbrev pub invariant-loop-place : goal.invariant-loop-place
invariant-loop-place l = record {
  long : length l.places.items ≡ length l.ranks;
  placed : (number : ℕ → ℕ) → AreNumbered number l.ranks → (p d e : ℕ) → p < l.place → get_or l.places.items (get_or l.ranks p d) e ≡ p;
}
