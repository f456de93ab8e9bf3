use Rattle.std.proofs.Common.{take}
use Rattle.effect_combine.proofs.Grids.{Stand}
use Rattle.effect_combine.proofs.combined.combine_items.Given as goal

abbrev pub invariant-loop-item : goal.invariant-loop-item
invariant-loop-item l = Stand l.rows l.tags (take l.item-index l.items) l.words.items
