use Rattle.std.proofs.Common.{◌≡◌, ℕ, ◌<◌, ◌≤◌, take}
use Rattle.sgl_parser.specs.Nesting.{ground_level, levels_behind, nesting, nesting_at}
use Rattle.sgl_parser.specs.Shape.{kinds_of}
use Rattle.sgl_parser.proofs.depth.first_deep.Given as goal

abbrev pub invariant-loop-at : goal.invariant-loop-at
invariant-loop-at l = record {
  levels : l.levels ≡ levels_behind ground_level (take l.at (kinds_of l.tokens));
  shallow : nesting l.levels ≤ 64;
  before : (m : ℕ) → m < l.at → nesting_at (kinds_of l.tokens) m ≤ 64;
}
