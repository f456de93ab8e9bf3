use Rattle.std.proofs.Common.{◌≡◌, ◌<◌, ◌≤◌, ◌+ℤ◌, ℕ, pos, get_or}
use Rattle.sgl_values.specs.World.{row_at}
use Rattle.battle_report.proofs.summary_line.add_row.Given as goal

abbrev pub invariant-loop-attr : goal.invariant-loop-attr
invariant-loop-attr l = record {
  added : (k : ℕ) → k < l.attr → get_or l.sums k (pos 0) ≡ get_or l.initial.sums k (pos 0) +ℤ get_or (row_at l.world.world l.row).values k (pos 0);
  ahead : (k : ℕ) → l.attr ≤ k → get_or l.sums k (pos 0) ≡ get_or l.initial.sums k (pos 0);
}
