-- Slots are a script's own, by the lemmas.
use Rattle.sgl_typed.proofs.Reading.{values-read_slots}
use Rattle.sgl_typed.proofs.Scope.{script_uses}
use Rattle.sgl_typed.proofs.law.slots_are_own.Goals as goal

pub returns : goal.returns
returns c = record { own = script_uses; read = values-read_slots }
