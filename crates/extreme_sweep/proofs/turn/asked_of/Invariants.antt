use Rattle.std.proofs.Common.{◌≡◌, ◌<◌, ◌≤◌, ℕ, length, map}
use Rattle.std.specs.Prelude.{All}
use Rattle.extreme_sweep.specs.Answers.{window_at}
use Rattle.extreme_sweep.proofs.turn.asked_of.Given as goal

abbrev pub invariant-loop-number : goal.invariant-loop-number
invariant-loop-number l = record {
  few : length l.numbers.items ≤ l.number;
  inside : All (λ (number : ℕ). number < length l.windows) l.numbers.items;
  lefts : l.lefts.items ≡ map (λ (number : ℕ). (window_at l.windows number).x1) l.numbers.items;
}
