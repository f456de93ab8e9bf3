use Rattle.std.proofs.Common.{◌≡◌, ◌++◌, ℕ, length, take}
use Rattle.std.specs.Prelude.{Contains, vec_capacity}
use Rattle.cell_links.specs.Links.{IsLinked}
use Rattle.cell_keep.proofs.placing.give_back.Given as goal

abbrev pub invariant-loop-row : goal.invariant-loop-row
invariant-loop-row l = record {
  rows : l.links.rows ≡ l.initial.links.rows;
  full : length l.links.lists ≡ length l.initial.links.lists;
  out : (row : ℕ) → IsLinked l.links row → IsLinked l.initial.links row × (¬ Contains (take l.row-index l.gone) row);
  free : l.free.items ≡ l.initial.free.items ++ take l.row-index l.gone;
  capacity : vec_capacity l.free ≡ vec_capacity l.initial.free;
}
