-- Slots that are set, and set back.
use Rattle.std.specs.Prelude.{◌≡◌, List, [], ◌∷◌, ◌++◌, slice_set}
use Rattle.sgl_values.specs.declared.fault.Val.{Val}
use Rattle.sgl_plain.specs.declared.slots.Earlier.{Earlier}
use Rattle.sgl_plain.specs.declared.slots.Slots.{Slots}

-- the slots as they were before these values were overwritten, the last of them first
abbrev pub restored : List Earlier → List Val → List Val
restored [] slots = slots
restored (earlier ∷ later) slots = slice_set (restored later slots) earlier.slot earlier.value

-- slots were set, and what they held before is behind the log
pub record IsLogged (old new : Slots) : Type 0 where
  pub more : List Earlier
  pub log : new.log.items ≡ old.log.items ++ more
  pub undone : restored more new.values.items ≡ old.values.items
