-- The uses of extremes made ready to be swept.
use Rattle.std.specs.Prelude.{◌≡◌, ℕ, List, map, slice_get, Some}
use Rattle.sgl_values.specs.World.{World}
use Rattle.sgl_typed.specs.declared.script.AggUse.{AggUse}
use Rattle.sgl_typed.specs.declared.script.TAgg.{TAgg}
use Rattle.sgl_typed.specs.declared.script.TScript.{TScript}
use Rattle.battle_algebra.specs.Ways.{attr_of}
use Rattle.battle_algebra.specs.declared.plan.Node.{Node}
use Rattle.row_groups.specs.Groups.{Grouping}
use Rattle.test_boxes.specs.Readings.{grouping}
use Rattle.test_boxes.specs.declared.reading.Reading.TheVariants.{Away}
use Rattle.group_sweeps.specs.Prepared.{IsPrepared}
use Rattle.index_set.specs.declared.prepared.Prepared.{Prepared}
use Rattle.index_set.specs.declared.prepared.PreparedUse.{PreparedUse}
use Rattle.index_set.specs.declared.ready.Ready.{Ready}
use Rattle.index_set.specs.declared.shelf.Shelf.{Shelf}
use Rattle.index_set.specs.declared.source.Source.{Source}
use Rattle.index_set.specs.declared.sweep_call.SweepCall.{SweepCall}
use Rattle.index_set.specs.Shelves.{IsShelf, IsShelfOf}
use Rattle.index_set.specs.Sweeps.{call_in, AreKeysOf}

-- a call is ready to be swept over the partition with its number, which is by the attributes of its equal tests
pub record IsPreparedUse (kept : PreparedUse) (shelf : Shelf) (script : TScript) (world : World) (seed : ℕ) (call : AggUse) (agg : TAgg) : Type 0 where
  pub groups : Grouping
  pub at : slice_get shelf.partitions kept.groups ≡ Some groups
  pub by : groups.attrs ≡ map attr_of (grouping Away agg.tests)
  pub ready : IsPrepared kept.sweep agg script world seed call.args groups

abbrev pub IsPreparedFor : PreparedUse → Shelf → Source → SweepCall → Type 0
IsPreparedFor kept shelf of found = IsPreparedUse kept shelf of.script.now of.world.now.world of.seed found.call.now found.agg.now

-- so for its node
pub record IsPreparedAt (kept : PreparedUse) (shelf : Shelf) (of : Source) (found : SweepCall) : Type 0 where
  pub node : kept.node ≡ found.node
  pub ready : IsPreparedFor kept shelf of found

-- each use is the call of its node, ready
abbrev pub ArePrepared : List PreparedUse → Shelf → TScript → World → ℕ → List Node → Type 0
ArePrepared uses shelf script world seed nodes = (number : ℕ) (kept : PreparedUse) (call : AggUse) (agg : TAgg) → slice_get uses number ≡ Some kept
    → call_in nodes kept.node ≡ Some call → slice_get script.aggs call.agg ≡ Some agg → IsPreparedUse kept shelf script world seed call agg

abbrev pub ArePreparedOf : List PreparedUse → Shelf → Source → Type 0
ArePreparedOf uses shelf of = ArePrepared uses shelf of.script.now of.world.now.world of.seed of.plan.now.nodes

-- so over a shelf of their own
pub record IsPreparedOn (prepared : Prepared) (script : TScript) (world : World) (seed : ℕ) (nodes : List Node) : Type 0 where
  pub shelf : IsShelf prepared.shelf world.rows
  pub uses : ArePrepared prepared.uses prepared.shelf script world seed nodes

abbrev pub IsPreparedOf : Prepared → Source → Type 0
IsPreparedOf prepared of = IsPreparedOn prepared of.script.now of.world.now.world of.seed of.plan.now.nodes

-- the keys and the partitions are those of the world, and the uses are ready over these
pub record AreReady (from : Ready) : Type 0 where
  pub keys : AreKeysOf from.of.now
  pub shelf : IsShelfOf from.shelf.now from.of.now
  pub uses : ArePreparedOf from.uses.now from.shelf.now from.of.now

-- one of the uses is that of the node
pub record IsUseOf (uses : List PreparedUse) (kept : PreparedUse) (node : ℕ) : Type 0 where
  pub number : ℕ
  pub at : slice_get uses number ≡ Some kept
  pub of : kept.node ≡ node
