use Rattle.index_set.specs.Kept.{AreKept}
use Rattle.index_set.specs.Shelves.{IsShelfOf}
use Rattle.index_set.proofs.parts.index_aggs.Given as goal

abbrev pub invariant-loop-number : goal.invariant-loop-number
invariant-loop-number g l = record {
  shelf : IsShelfOf l.shelf l.of;
  kept : AreKept l.shelf l.kept.items l.number l.of.script.now l.of.world.now.world.rows;
}
