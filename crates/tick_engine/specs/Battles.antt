-- What is always true of a battle.
use Rattle.std.specs.Prelude.{◌≡◌, ◌<◌, ◌≤◌, true, length, is_some, IfSome}
use Rattle.sgl_typed.specs.WrittenOut.{is_written_out}
use Rattle.battle_algebra.specs.OfScript.{IsOf}
use Rattle.battle_algebra.specs.Plans.{GivesItems, tree_in}
use Rattle.tick_engine.specs.Prepared.{IsSetup}
use Rattle.tick_engine.specs.State.{State}
use Rattle.tick_engine.specs.declared.battle.Battle.TheInside.{Inside}
use Rattle.sgl_values.specs.declared.limit.TheConstants.{ITEMS_MAX, WORKERS_MAX}

abbrev pub state_of : Inside → State
state_of b = record {
  script = b.script;
  plan = b.plan;
  world = b.world;
  settings = b.settings;
  ready = is_some b.setup;
  reached = b.reached.items;
}

-- the plan is of the script and gives its items, and what is prepared is for the tick behind the world
pub record IsBattle (b : Inside) : Type 0 where
  pub width : b.world.width ≡ length b.script.schema.consts
  pub workers : (0 < b.settings.workers) × (b.settings.workers ≤ WORKERS_MAX)
  pub few : b.settings.items ≤ ITEMS_MAX
  pub written : is_written_out b.script ≡ true
  pub of : IsOf b.script (tree_in b.plan.plan.nodes)
  pub gives : GivesItems b.script b.plan.plan.nodes b.plan.plan.slots
  pub ready : IfSome b.setup (IsSetup b.script b.plan b.world b.settings)
