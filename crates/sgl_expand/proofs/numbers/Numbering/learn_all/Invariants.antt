use Rattle.std.proofs.Common.{◌≡◌, ◌++◌, drop}
use Rattle.sgl_expand.specs.Written.{numbered_from}
use Rattle.sgl_expand.proofs.numbers.Numbering.learn_all.Given as goal

abbrev pub invariant-loop-slot : goal.invariant-loop-slot
invariant-loop-slot l =
    (l.self.known.items ++ numbered_from l.number (drop l.slot-index l.slots) ≡ l.initial.self.known.items ++ numbered_from l.initial.number l.slots)
    × (l.self.next ≡ l.initial.self.next)
