use Rattle.std.proofs.Common.{List, sym, subst}
use Rattle.sgl_typed.specs.declared.script.Attr.{Attr}
use Rattle.row_groups.specs.Groups.{Grouping, IsGroups}
use Rattle.index_set.specs.Shelves.{Grows, IsShelf}
use Rattle.index_set.proofs.Shelving.{groups_grow, groups_shelved}
use Rattle.index_set.proofs.shelf.Shelf.groups_for.Goals as goal

pub returns-clause-shelf : goal.returns-clause-shelf
returns-clause-shelf g c =
    let shelf = c.args.self.now in
    let rows = c.args.world.now.world.rows in
    let made = c.in_ok-groups.groups in
    let of : IsGroups made made.attrs rows = subst (λ (attrs : List Attr). IsGroups made attrs rows) (sym c.in_ok-groups.ensures.by) c.in_ok-groups.ensures in
    subst (λ (ps : List Grouping). IsShelf (record { partitions = ps; parts = shelf.parts }) rows) (sym c.in_ok-push.ensures.ok) (groups_shelved shelf made rows c.requires.shelf of)

pub returns-clause-grows : goal.returns-clause-grows
returns-clause-grows g c =
    let shelf = c.args.self.now in
    subst (λ (ps : List Grouping). Grows shelf (record { partitions = ps; parts = shelf.parts })) (sym c.in_ok-push.ensures.ok) (groups_grow shelf c.in_ok-groups.groups)
