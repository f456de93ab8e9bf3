use Rattle.std.proofs.Common.{◌≡◌, drop}
use Rattle.sgl_expand.specs.Written.{number_from}
use Rattle.sgl_expand.proofs.numbers.number_of.Given as goal

abbrev pub invariant-loop-one : goal.invariant-loop-one
invariant-loop-one l = number_from l.number (drop l.one-index l.known) l.slot ≡ number_from 0 l.known l.slot
