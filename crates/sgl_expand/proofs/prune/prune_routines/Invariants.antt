use Rattle.std.proofs.Common.{◌≡◌, [], drop}
use Rattle.sgl_expand.specs.Pruned.{pruned_routines}
use Rattle.sgl_expand.proofs.prune.prune_routines.Given as goal

abbrev pub invariant-loop-routine : goal.invariant-loop-routine
invariant-loop-routine l = pruned_routines l.done (drop l.routine-index l.routines) ≡ pruned_routines [] l.routines
