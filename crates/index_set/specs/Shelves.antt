-- Partitions and range indices that stand on a shelf, by their numbers.
use Rattle.std.specs.Prelude.{◌≡◌, ◌<◌, ℕ, List, length, slice_get, Option, None, Some}
use Rattle.std.specs.Option.{option_map}
use Rattle.sgl_values.specs.World.{Row}
use Rattle.sgl_typed.specs.declared.script.Attr.{Attr}
use Rattle.row_groups.specs.Groups.{Grouping, IsGroups}
use Rattle.group_boxes.specs.Points.{Indexed, IsBoxes}
use Rattle.group_boxes.specs.declared.axes.Axes.{Axes}
use Rattle.group_boxes.specs.declared.ranged.GroupBoxes.{GroupBoxes}
use Rattle.index_set.specs.declared.part.Part.{Part}
use Rattle.index_set.specs.declared.shelf.Shelf.{Shelf}
use Rattle.index_set.specs.declared.source.Source.{Source}

-- a partition with the boxes over it
abbrev pub with_boxes : Indexed → Grouping → Grouping × Indexed
with_boxes boxes groups = (groups, boxes)

abbrev pub pair_of : GroupBoxes → Grouping × Indexed
pair_of part = (part.groups.now, part.boxes.now)

-- range indices that may be missing, over a partition that may be
abbrev pub boxes_on : List Grouping → Option Part → Option (Grouping × Indexed)
boxes_on partitions None = None
boxes_on partitions (Some part) = option_map (with_boxes part.boxes) (slice_get partitions part.groups)

-- the range indices with this number, and the partition that they are over
abbrev pub part_in : Shelf → ℕ → Option (Grouping × Indexed)
part_in shelf number = boxes_on shelf.partitions (slice_get shelf.parts number)

-- there is a partition with this number, by these attributes
pub record HasGroups (shelf : Shelf) (number : ℕ) (attrs : List Attr) : Type 0 where
  pub groups : Grouping
  pub at : slice_get shelf.partitions number ≡ Some groups
  pub by : groups.attrs ≡ attrs

-- there is a partition with this number
abbrev pub IsPartition : Shelf → ℕ → Type 0
IsPartition shelf number = number < length shelf.partitions

-- there are range indices with this number, by these attributes and along these axes
pub record Matches (shelf : Shelf) (number : ℕ) (attrs : List Attr) (axes : Axes) : Type 0 where
  pub groups : Grouping
  pub boxes : Indexed
  pub at : part_in shelf number ≡ Some (groups, boxes)
  pub by : groups.attrs ≡ attrs
  pub along : boxes.axes ≡ axes

-- they are of these rows
pub record IsPart (shelf : Shelf) (number : ℕ) (attrs : List Attr) (axes : Axes) (rows : List Row) : Type 0 where
  pub groups : Grouping
  pub boxes : Indexed
  pub at : part_in shelf number ≡ Some (groups, boxes)
  pub by : groups.attrs ≡ attrs
  pub along : boxes.axes ≡ axes
  pub held : IsBoxes groups boxes rows

-- there is a partition under the boxes, and all are of these rows
pub record IsOver (partitions : List Grouping) (part : Part) (rows : List Row) : Type 0 where
  pub groups : Grouping
  pub at : slice_get partitions part.groups ≡ Some groups
  pub held : IsBoxes groups part.boxes rows

-- all that stands on the shelf is of these rows
pub record IsShelf (shelf : Shelf) (rows : List Row) : Type 0 where
  pub groups : (number : ℕ) (groups : Grouping) → slice_get shelf.partitions number ≡ Some groups → IsGroups groups groups.attrs rows
  pub parts : (number : ℕ) (part : Part) → slice_get shelf.parts number ≡ Some part → IsOver shelf.partitions part rows

-- they are those of the world that indices are made of
abbrev pub IsShelfOf : Shelf → Source → Type 0
IsShelfOf shelf of = IsShelf shelf of.world.now.world.rows

-- what stood on it still does
pub record Grows (old new : Shelf) : Type 0 where
  pub groups : (number : ℕ) (groups : Grouping) → slice_get old.partitions number ≡ Some groups → slice_get new.partitions number ≡ Some groups
  pub parts : (number : ℕ) (pair : Grouping × Indexed) → part_in old number ≡ Some pair → part_in new number ≡ Some pair
