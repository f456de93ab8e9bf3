use Rattle.std.proofs.Common.{◌≡◌, ◌+◌, ◌*◌, ◌≤◌, ◌++◌, length}
use Rattle.battle_report.specs.RunLines.{sums_text, units_text}
use Rattle.battle_report.proofs.summary_line.summary_line.Given as goal

abbrev pub invariant-loop-sum : goal.invariant-loop-sum
invariant-loop-sum l = record {
  text : l.line.items ≡ units_text l.world.world ++ sums_text l.sum-index l.world.world.rows;
  short : length l.line.items ≤ 400 + 21 * l.sum-index;
}
