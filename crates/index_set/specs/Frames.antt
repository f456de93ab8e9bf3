-- Frames: a unit and the values of its slots.
use Rattle.std.specs.Prelude.{ℕ, List, [], take}
use Rattle.sgl_values.specs.World.{Row, World, row_at}
use Rattle.sgl_values.specs.declared.fault.Val.{Val}
use Rattle.sgl_typed.specs.declared.script.TScript.{TScript}
use Rattle.sgl_typed.specs.Value.{Context}

-- a unit of a world with these slots
abbrev pub frame_of : TScript → World → ℕ → Row → List Val → Context
frame_of script world seed unit slots = record { script = script; world = world; seed = seed; unit = unit; slots = slots; target = unit; combined = [] }

-- the context of a clause: the unit with this number, with the values of the arguments, so many of them
abbrev pub clause_context_of : TScript → World → ℕ → ℕ → List Val → ℕ → Context
clause_context_of script world seed unit args count = frame_of script world seed (row_at world unit) (take count args)
