use Rattle.std.proofs.Common.{◌≤◌, ◌++◌, length, take}
use Rattle.std.specs.List.Sorted.{IsPermutation}
use Rattle.cell_keep.specs.Rows.{rows_in}
use Rattle.cell_keep.proofs.matching.Matching.run.Given as goal

abbrev pub invariant-loop-place : goal.invariant-loop-place
invariant-loop-place l = record {
  each : length l.self.taken.items ≤ length l.new;
  shared : IsPermutation (take l.place l.order) (rows_in l.self.taken.items ++ l.self.gone.items);
}
