use Rattle.std.proofs.Common.{ap, refl, sym, ◌∙◌}
use Rattle.std.specs.Option.{option_copied}
use Rattle.index_set.proofs.Slabbing.{sorted_there}
use Rattle.index_set.proofs.slabs.Slabs.sorted_groups.Goals as goal

pub returns-clause-sorted : goal.returns-clause-sorted
returns-clause-sorted c =
    let there = sorted_there c.args.self.now c.args.shelf.now c.args.world.now.world c.args.number c.in_ok-sorting.sorting.now c.in_ok-groups.groups.now c.requires
    (sym c.get.ensures ∙ ap option_copied c.in_ok-sorting.was) (sym c.get-2.ensures ∙ ap option_copied c.in_ok-groups.was) in
    record { of = there.0; held = there.1 }

pub returns-clause-taken : goal.returns-clause-taken
returns-clause-taken c = record {
  sorting = c.in_ok-sorting.sorting.now;
  at = sym c.get.ensures ∙ ap option_copied c.in_ok-sorting.was;
  parted = sym c.get-2.ensures ∙ ap option_copied c.in_ok-groups.was;
  axis = refl;
  across = refl;
}
