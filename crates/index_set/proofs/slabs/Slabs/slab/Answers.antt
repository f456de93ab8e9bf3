use Rattle.std.proofs.Common.{None, ap, sym, ◌∙◌}
use Rattle.std.specs.Option.{option_copied}
use Rattle.std.specs.Prelude.{slice_index_or}
use Rattle.index_set.proofs.Slabbing.{used_slab}
use Rattle.index_set.proofs.slabs.Slabs.slab.Goals as goal

pub returns : goal.returns
returns c =
    let of = c.args.of in
    used_slab _ c.in_ok-found.field-0.now c.args.self.now c.args.shelf.now c.args.tests.now of.world.now.world
    (c.requires.used.own c.args.node c.in_ok-found.field-0.now c.args.tests.now
    (ap (λ kept. slice_index_or kept c.args.node None) (sym c.deref.ensures.value) ∙ sym c.kept_at.ensures ∙ ap option_copied c.in_ok-found.was) c.requires.tests) c.in_ok-slab.ensures.taken c.in_ok-slab.ensures.sorted
