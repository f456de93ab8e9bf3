use Rattle.std.proofs.Common.{◌≡◌, ◌+◌, length}
use Rattle.tick_postprocess.specs.Blocks.{AreAssigned}
use Rattle.tick_postprocess.proofs.assigning.assign_all.Given as goal

abbrev pub invariant-loop-lane : goal.invariant-loop-lane
invariant-loop-lane l = record {
  long : length l.faults ≡ 64;
  assigned : AreAssigned l.rows.ending.now l.rows.first (l.rows.first + l.lane) l.rows.cells.now l.new l.faults;
}
