use Rattle.std.proofs.Common.{◌≡◌, ◌+◌, ◌++◌, drop, length, map}
use Rattle.sgl_expand.specs.Written.{argument_lets, renumbered}
use Rattle.sgl_expand.proofs.write.Writing.write_arguments.Given as goal

abbrev pub invariant-loop-i : goal.invariant-loop-i
invariant-loop-i l =
    (l.self.made ++ argument_lets (drop l.i l.places) l.self.numbering.next (map (renumbered l.initial.self.numbering.known.items) (drop l.i l.args))
    ≡ l.initial.self.made ++ argument_lets l.places l.initial.self.numbering.next (map (renumbered l.initial.self.numbering.known.items) l.args))
    × (l.self.numbering.next + length (drop l.i l.args) ≡ l.initial.self.numbering.next + length l.args)
    × (l.self.numbering.known ≡ l.initial.self.numbering.known)
    × (l.self.calls ≡ l.initial.self.calls)
