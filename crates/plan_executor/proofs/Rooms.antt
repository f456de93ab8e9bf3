-- Rooms whose buffers are written to.
use Rattle.std.proofs.Common.{◌≡◌, ◌<◌, ℕ, List, length, sym, ◌∙◌}
use Rattle.sgl_values.specs.declared.fault.Val.{Val}
use Rattle.task_scratch.specs.Scratch.{AreWide}
use Rattle.task_scratch.specs.declared.room.Room.{Room}
use Rattle.plan_executor.specs.Rooms.{KeepsRows}

pub keeps_more : {a b c : Room} → KeepsRows a b → KeepsRows b c → KeepsRows a c
keeps_more first second = record { masks = second.masks ∙ first.masks; rows = second.rows ∙ first.rows; reach = second.reach ∙ first.reach }

-- rows have one width
pub one_width : {rows : List (List Val)} (a b : ℕ) → 0 < length rows → AreWide a rows → AreWide b rows → a ≡ b
one_width a b some first second = sym (first.is 0 some) ∙ second.is 0 some
