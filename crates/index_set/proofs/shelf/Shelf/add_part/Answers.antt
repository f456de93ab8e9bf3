use Rattle.std.proofs.Common.{◌≡◌, ℕ, List, length, sym, subst}
use Rattle.row_groups.specs.Groups.{Grouping, IsGroups}
use Rattle.group_boxes.specs.Points.{IsBoxes}
use Rattle.index_set.specs.declared.part.Part.{Part}
use Rattle.index_set.specs.Shelves.{Grows, IsPart, IsShelf}
use Rattle.index_set.proofs.Shelving.{part_grows, part_put, part_shelved, taken}
use Rattle.index_set.proofs.shelf.Shelf.add_part.Goals as goal

pub build-requires-after_bounds : goal.build-requires-after_bounds
build-requires-after_bounds g c κs within =
    let found = c.requires.groups in
    let same : c.index-as_slice-groups.result ≡ found.groups =
    taken c.as_slice.result.now c.args.self.now.partitions c.args.groups found.groups c.index-as_slice-groups.result c.index-as_slice-groups.is c.as_slice.ensures found.at in
    subst (λ (x : Grouping). IsGroups x x.attrs c.args.world.now.world.rows) (sym same) (c.requires.shelf.groups c.args.groups found.groups found.at)

pub returns : goal.returns
returns g c =
    let found = c.requires.groups in
    let shelf = c.args.self.now in
    let rows = c.args.world.now.world.rows in
    let same : c.index-as_slice-groups.result ≡ found.groups =
    taken c.as_slice.result.now shelf.partitions c.args.groups found.groups c.index-as_slice-groups.result c.index-as_slice-groups.is c.as_slice.ensures found.at in
    let part : Part = record { groups = c.args.groups; boxes = c.in_ok-boxes.boxes } in
    let held : IsBoxes found.groups part.boxes rows = subst (λ (x : Grouping). IsBoxes x part.boxes rows) same c.in_ok-boxes.ensures.held in
    let put = sym c.in_ok-push.ensures.ok in
    record {
      part = subst (λ (n : ℕ). IsPart (record { partitions = shelf.partitions; parts = c.push.new.self }) n c.args.attrs.now c.args.axes rows) (sym c.len-number.ensures)
          (subst (λ (ps : List Part). IsPart (record { partitions = shelf.partitions; parts = ps }) (length shelf.parts) c.args.attrs.now c.args.axes rows) put
          (part_put shelf part found.groups c.args.attrs.now c.args.axes rows found.at found.by c.in_ok-boxes.ensures.axes held));
      shelf = subst (λ (ps : List Part). IsShelf (record { partitions = shelf.partitions; parts = ps }) rows) put
          (part_shelved shelf part rows c.requires.shelf (record { groups = found.groups; at = found.at; held = held }));
      grows = subst (λ (ps : List Part). Grows shelf (record { partitions = shelf.partitions; parts = ps })) put (part_grows shelf part);
    }
