-- What reading a file to its end with a limit answers.
use Rattle.std.specs.Prelude.{◌≡◌, ◌<◌, ◌≤◌, ℕ, List, length, Option, Some, IfSome, ⊤}
use Rattle.sgl_outside.specs.Causes.{Rose}
use Rattle.sgl_outside.specs.Folders.{Files}
use Rattle.battle_host.specs.declared.reading.ReadRefusal.{ReadRefusal}
use Rattle.battle_host.specs.declared.reading.ReadRefusal.TheVariants as refusal
use Rattle.battle_host.specs.declared.status.Status.{Status}
use Rattle.battle_host.specs.declared.status.Status.TheVariants as status

-- the name is held with these bytes, which are within the limit
abbrev pub IsHeldWithin : Option Files → List ℕ → ℕ → List ℕ → Type 0
IsHeldWithin held name limit bytes = (length bytes ≤ limit) × IfSome held (λ files. files name ≡ Some bytes)

-- the name is held with more bytes than the limit
abbrev pub IsHeldAbove : Option Files → List ℕ → ℕ → Type 0
IsHeldAbove held name limit = IfSome held (λ files. (bytes : List ℕ) × (files name ≡ Some bytes) × (limit < length bytes))

-- why a file was not read
abbrev pub ReadRefused : Option Files → List ℕ → ℕ → ℕ → ℕ → ReadRefusal → Type 0
ReadRefused held name limit before now refusal.Fault = Rose before now
ReadRefused held name limit before now refusal.TooLong = IsHeldAbove held name limit
ReadRefused held name limit before now refusal.Memory = ⊤

-- how a run ends whose file was not read, where a file that is too long has this status
abbrev pub read_status : Status → ReadRefusal → Status
read_status too_long refusal.Fault = status.ReadFault
read_status too_long refusal.TooLong = too_long
read_status too_long refusal.Memory = status.Memory
