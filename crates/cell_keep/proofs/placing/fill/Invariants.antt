use Rattle.std.proofs.Common.{◌≡◌, ◌≤◌, ◌++◌, ℕ, length, drop}
use Rattle.std.specs.Prelude.{Contains, vec_capacity}
use Rattle.std.specs.List.Sorted.{IsPermutation}
use Rattle.cell_keep.specs.Rows.{rows_in}
use Rattle.cell_keep.proofs.placing.fill.Given as goal

abbrev pub invariant-loop-row : goal.invariant-loop-row
invariant-loop-row l = record {
  shared : IsPermutation (rows_in l.taken ++ l.initial.free.items) ((l.order.items ++ rows_in (drop l.row-index l.taken)) ++ l.free.items);
  holds : (row : ℕ) → Contains (rows_in l.taken) row → Contains (l.order.items ++ rows_in (drop l.row-index l.taken)) row;
  each : length l.order.items ≡ l.row-index;
  room : 65536 ≤ vec_capacity l.order;
  capacity : vec_capacity l.free ≡ vec_capacity l.initial.free;
}
