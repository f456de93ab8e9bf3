use Rattle.index_set.specs.Shelves.{Grows, IsShelfOf}
use Rattle.index_set.proofs.laying.lay_groups.Given as goal

abbrev pub invariant-loop-node : goal.invariant-loop-node
invariant-loop-node g l = record {
  shelf : IsShelfOf l.shelf l.of;
  grows : Grows l.initial.shelf l.shelf;
}
