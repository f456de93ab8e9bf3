use Rattle.std.proofs.Common.{◌≡◌, ◌-◌, take, length, reverse}
use Rattle.plan_rewrite.specs.Rewrite.{slot_for}
use Rattle.plan_rewrite.proofs.renaming.slot_for.Given as goal

abbrev pub invariant-loop-behind : goal.invariant-loop-behind
invariant-loop-behind l = slot_for (reverse (take (length l.renamings - l.behind) l.renamings)) l.slot ≡ slot_for (reverse l.renamings) l.slot
