-- What the loop over the nodes has done.
use Rattle.std.specs.Prelude.{ℕ, List}
use Rattle.sgl_values.specs.declared.item.Item.{Item}
use Rattle.battle_algebra.specs.Meaning.{Frame}
use Rattle.battle_algebra.specs.declared.plan.Node.{Node}
use Rattle.plan_executor.specs.Frames.{Slots, Running}
use Rattle.plan_executor.specs.Sinking.{Bounds, State, Pushes}

-- some items were given, and these are still to come
pub record Looping (base : ℕ → Frame) (nodes : List Node) (whole : List Item) (counts : List ℕ) (at : ℕ) (masks : List ℕ) (slots : Slots) (bounds : Bounds) (start now : State) : Type 0 where
  pub given : List Item
  pub runs : Running base nodes whole counts at masks slots given
  pub pushes : Pushes bounds start now given
