-- A frame as the context of an expression.
use Rattle.std.specs.Prelude.{◌<◌, length}
use Rattle.sgl_values.specs.World.{row_at}
use Rattle.sgl_typed.specs.Value.{Context}
use Rattle.sgl_evaluate.specs.declared.frame.Frame.{Frame}

-- what the frame lets an expression read
abbrev pub context_of : Frame → Context
context_of f = record {
  script = f.tick.script.now;
  world = f.tick.world.now.world;
  seed = f.tick.seed;
  unit = row_at f.tick.world.now.world f.unit;
  slots = f.slots.now;
  target = row_at f.tick.world.now.world f.target;
  combined = f.combined.now;
}

-- the rows of the frame are in the world
pub record IsFrame (f : Frame) : Type 0 where
  pub unit : f.unit < length f.tick.world.now.world.rows
  pub target : f.target < length f.tick.world.now.world.rows
