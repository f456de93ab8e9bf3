use Rattle.std.proofs.Common.{◌≡◌, drop}
use Rattle.sgl_types.specs.Walk.{after_items}
use Rattle.sgl_types.proofs.items.Checking.check_items.Given as goal

abbrev pub invariant-loop-item : goal.invariant-loop-item
invariant-loop-item l =
    (l.self.all ≡ l.initial.self.all)
    × (after_items l.self.all.now (drop l.item-index l.items) l.self.typed ≡ after_items l.initial.self.all.now l.items l.initial.self.typed)
