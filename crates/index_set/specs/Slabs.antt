-- The rows of groups in strips.
use Rattle.std.specs.Prelude.{◌≡◌, ℕ, ◌≤◌, List, length, map, slice_get, slice_index_or, Option, None, Some}
use Rattle.std.specs.Option.{option_map}
use Rattle.sgl_values.specs.World.{World}
use Rattle.sgl_typed.specs.declared.script.TScript.{TScript}
use Rattle.sgl_typed.specs.declared.script.TTest.{TTest}
use Rattle.battle_algebra.specs.Meaning.{clause_of}
use Rattle.battle_algebra.specs.Ways.{attr_of, x_of, y_of}
use Rattle.battle_algebra.specs.declared.plan.Node.{Node}
use Rattle.battle_algebra.specs.declared.plan.Node.TheVariants.{Effect}
use Rattle.row_groups.specs.Groups.{Grouping, IsGroups}
use Rattle.row_groups.specs.Sorted.{IsSorting}
use Rattle.test_boxes.specs.Readings.{grouping}
use Rattle.index_set.specs.declared.shelf.Shelf.{Shelf}
use Rattle.index_set.specs.declared.slab.Slab.{Slab}
use Rattle.index_set.specs.declared.slabs.Slabs.{Slabs}
use Rattle.index_set.specs.declared.slab.SlabUse.{SlabUse}
use Rattle.index_set.specs.declared.sorting.Sorting.{Sorting}
use Rattle.index_set.specs.declared.source.Source.{Source}
use Rattle.index_set.specs.Left.{how_left, IsLeft}

-- sorted groups are those of a partition that stands on the shelf, which is of the rows of the world
pub record IsOnShelf (shelf : Shelf) (sorting : Sorting) (world : World) : Type 0 where
  pub groups : Grouping
  pub at : slice_get shelf.partitions sorting.groups ≡ Some groups
  pub of : IsGroups groups groups.attrs world.rows
  pub held : IsSorting sorting.sorted groups sorting.axis sorting.across world

-- all are
pub record AreSlabs (slabs : Slabs) (shelf : Shelf) (world : World) : Type 0 where
  pub each : (number : ℕ) (sorting : Sorting) → slice_get slabs.sorts number ≡ Some sorting → IsOnShelf shelf sorting world

-- groups of the rows of the world, sorted
pub record IsSorted (slab : Slab) (world : World) : Type 0 where
  pub of : IsGroups slab.groups.now slab.groups.now.attrs world.rows
  pub held : IsSorting slab.sorted.now slab.groups.now slab.axis slab.across world

-- they are by the attributes of the tests that are equal as they are read, for the values of which a key has room, their strips are of
-- those of the range tests, and leave these tests
pub record IsSlab (slab : Slab) (tests : List TTest) (world : World) : Type 0 where
  pub by : slab.groups.now.attrs ≡ map attr_of (grouping (how_left slab.left) tests)
  pub few : length (grouping (how_left slab.left) tests) ≤ 4
  pub axis : slab.axis ≡ x_of tests
  pub across : slab.across ≡ y_of tests
  pub sorted : IsSorted slab world
  pub left : IsLeft slab.left slab.axis slab.across tests

-- the slab is the sorted groups with this number, over their partition
pub record IsTaken (slab : Slab) (slabs : Slabs) (shelf : Shelf) (number : ℕ) : Type 0 where
  pub sorting : Sorting
  pub at : slice_get slabs.sorts number ≡ Some sorting
  pub parted : slice_get shelf.partitions sorting.groups ≡ Some slab.groups.now
  pub axis : slab.axis ≡ sorting.axis
  pub across : slab.across ≡ sorting.across

-- ---- by number of node

-- the tests of the clause of an effect
abbrev pub tests_of : TScript → Option Node → Option (List TTest)
tests_of script (Some (Effect act way)) = option_map (λ clause. clause.tests) (clause_of (slice_get script.actions act.action) act.clause)
tests_of script other = None

-- sorted groups are there by the attributes of the tests that are equal as they are read, their strips are of those of the range tests,
-- and leave these tests
pub record IsUse (found : SlabUse) (slabs : Slabs) (shelf : Shelf) (tests : List TTest) : Type 0 where
  pub sorting : Sorting
  pub groups : Grouping
  pub at : slice_get slabs.sorts found.number ≡ Some sorting
  pub parted : slice_get shelf.partitions sorting.groups ≡ Some groups
  pub by : groups.attrs ≡ map attr_of (grouping (how_left found.left) tests)
  pub few : length (grouping (how_left found.left) tests) ≤ 4
  pub axis : sorting.axis ≡ x_of tests
  pub across : sorting.across ≡ y_of tests
  pub left : IsLeft found.left sorting.axis sorting.across tests

-- what a node has is for its tests
abbrev pub AreOwnUse : Option SlabUse → Slabs → Shelf → TScript → Option Node → Type 0
AreOwnUse one slabs shelf script node = (found : SlabUse) (tests : List TTest) → one ≡ Some found → tests_of script node ≡ Some tests
    → IsUse found slabs shelf tests

-- so is what the first nodes have
pub record AreUsed (slabs : Slabs) (shelf : Shelf) (world : World) (script : TScript) (nodes : List Node) (count : ℕ) : Type 0 where
  pub all : length slabs.nodes.items ≡ count
  pub sorts : AreSlabs slabs shelf world
  pub own : (node : ℕ) → AreOwnUse (slice_index_or slabs.nodes.items node None) slabs shelf script (slice_get nodes node)

-- what all nodes have
abbrev pub AreAllUsed : Slabs → Shelf → World → TScript → List Node → Type 0
AreAllUsed slabs shelf world script nodes = AreUsed slabs shelf world script nodes (length nodes)

-- the same of what indices are made of
abbrev pub AreUsedTo : Slabs → Shelf → Source → ℕ → Type 0
AreUsedTo slabs shelf of = AreUsed slabs shelf of.world.now.world of.script.now of.plan.now.nodes

-- the nodes keep what they have, and sorted groups stay where they are
pub record KeepsSorts (old new : Slabs) : Type 0 where
  pub nodes : new.nodes.items ≡ old.nodes.items
  pub sorts : (number : ℕ) (sorting : Sorting) → slice_get old.sorts number ≡ Some sorting → slice_get new.sorts number ≡ Some sorting
