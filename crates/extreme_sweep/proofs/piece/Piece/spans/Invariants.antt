use Rattle.std.proofs.Common.{◌≡◌, ◌<◌, ℕ, get_or, length}
use Rattle.extreme_sweep.specs.declared.layout.Span.{Span}
use Rattle.extreme_sweep.specs.Answers.{window_at}
use Rattle.extreme_sweep.specs.Sweeping.{IsSpan}
use Rattle.extreme_sweep.proofs.piece.Piece.spans.Given as goal

abbrev pub invariant-loop-number : goal.invariant-loop-number
invariant-loop-number l = record {
  count : length l.spans.items ≡ l.number;
  each : (k : ℕ) (d : Span) → k < length l.spans.items → IsSpan l.layout (window_at l.fn.self.windows.now (get_or l.fn.self.turns.now k 0)) (get_or l.spans.items k d);
}
