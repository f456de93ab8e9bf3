use Rattle.std.proofs.Common.{◌≤◌, length, map, ap, subst, sym, ◌∙◌}
use Rattle.battle_algebra.specs.Ways.{attr_of}
use Rattle.test_boxes.specs.Readings.{grouping}
use Rattle.test_boxes.specs.declared.reading.Reading.{Reading}
use Rattle.index_set.proofs.Slabbing.{use_left}
use Rattle.index_set.proofs.slabs.Slabs.use_of.Goals as goal

pub is_for-requires : goal.is_for-requires
is_for-requires c = subst (λ (how : Reading). length (grouping how c.args.tests.now) ≤ 4) (sym c.reading.ensures) c.requires.few

pub returns-then-is_for : goal.returns-then-is_for
returns-then-is_for c =
    use_left c.in_ok-slab.slab c.args.number c.args.left c.args.self.now c.args.shelf.now c.args.tests.now
    c.in_ok-slab.ensures.taken
    (c.is_for.ensures.attrs c.if-is_for.true ∙ ap (λ (how : Reading). map attr_of (grouping how c.args.tests.now)) c.reading.ensures) c.requires.few
    (c.is_for.ensures.axis c.if-is_for.true) (c.is_for.ensures.across c.if-is_for.true) c.requires.left
