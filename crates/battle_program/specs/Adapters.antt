-- What the adapters count.
use Rattle.std.specs.Prelude.{ℕ, List}
use Rattle.battle_program.specs.declared.adapters.DiskFolder.{DiskFolder}
use Rattle.battle_program.specs.declared.adapters.Stream.{Stream}

-- how often a file could not be opened or read, under each name alike
abbrev pub disk_faults : DiskFolder → List ℕ → ℕ
disk_faults folder name = folder.faults

-- how often a write failed
abbrev pub stream_faults : {W : Type 0} → Stream W → ℕ
stream_faults stream = stream.faults
