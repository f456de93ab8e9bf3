use Rattle.std.proofs.Common.{◌≡◌, ◌-◌, take, length, reverse}
use Rattle.plan_rewrite.specs.Rewrite.{slot_of}
use Rattle.battle_algebra.specs.Same.{same_call}
use Rattle.plan_rewrite.proofs.known.slot_of.Given as goal

abbrev pub invariant-loop-behind : goal.invariant-loop-behind
invariant-loop-behind l = slot_of same_call l.call (reverse (take (length l.above - l.behind) l.above)) ≡ slot_of same_call l.call (reverse l.above)
