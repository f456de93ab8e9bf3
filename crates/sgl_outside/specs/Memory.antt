-- What a clause reads of the folders and sinks in memory.
use Rattle.std.specs.Prelude.{ℕ, cond, List, Option, Some, is_some, vec_capacity}
use Rattle.sgl_outside.specs.Shelves.{HeldFile, held_in, left_in}
use Rattle.sgl_outside.specs.Folders.{Files}
use Rattle.sgl_outside.specs.declared.memory_folders.MemFolder.{MemFolder}
use Rattle.sgl_outside.specs.declared.memory_folders.SteadyFolder.{SteadyFolder}
use Rattle.sgl_outside.specs.declared.memory_sinks.MemSink.{MemSink}
use Rattle.sgl_outside.specs.declared.memory_sinks.SteadySink.{SteadySink}

-- the files by name and bytes, in the order given
abbrev pub mem_folder_files : MemFolder → List HeldFile
mem_folder_files f = f.shelf.files

-- the bytes held under each name
abbrev pub mem_folder_held : MemFolder → Option Files
mem_folder_held f = Some (held_in f.shelf.files)

-- the bytes left under each name
abbrev pub mem_folder_left : MemFolder → List ℕ → Option (List ℕ)
mem_folder_left f = left_in f.shelf.files f.shelf.begun f.shelf.at

-- the calls that are to fail, by name and number
abbrev pub mem_folder_plan : MemFolder → List (List ℕ × ℕ)
mem_folder_plan f = f.failing

-- the number of the last call, from the last `begin` on
abbrev pub mem_folder_calls : MemFolder → ℕ
mem_folder_calls f = f.calls

-- how many calls have failed
abbrev pub mem_folder_faults : MemFolder → ℕ
mem_folder_faults f = f.faults

-- the files by name and bytes, in the order given
abbrev pub steady_folder_files : SteadyFolder → List HeldFile
steady_folder_files f = f.shelf.files

-- the bytes held under each name
abbrev pub steady_folder_held : SteadyFolder → Option Files
steady_folder_held f = Some (held_in f.shelf.files)

-- the bytes left under each name
abbrev pub steady_folder_left : SteadyFolder → List ℕ → Option (List ℕ)
steady_folder_left f = left_in f.shelf.files f.shelf.begun f.shelf.at

-- how often each name was missed: never one that is held, and the missing ones together
abbrev pub steady_folder_faults : SteadyFolder → List ℕ → ℕ
steady_folder_faults f name = cond (is_some (held_in f.shelf.files name)) 0 f.faults

-- the bytes that were written
abbrev pub mem_sink_bytes : MemSink → List ℕ
mem_sink_bytes s = s.held.bytes.items

-- how many bytes it may hold
abbrev pub mem_sink_room : MemSink → ℕ
mem_sink_room s = s.held.room

-- for how many bytes it has taken memory
abbrev pub mem_sink_reserved : MemSink → ℕ
mem_sink_reserved s = vec_capacity s.held.bytes

-- the numbers of the writes that are to fail
abbrev pub mem_sink_plan : MemSink → List ℕ
mem_sink_plan s = s.failing

-- the number of the last write
abbrev pub mem_sink_writes : MemSink → ℕ
mem_sink_writes s = s.writes

-- how many writes have failed
abbrev pub mem_sink_faults : MemSink → ℕ
mem_sink_faults s = s.faults

-- the bytes that were written
abbrev pub steady_sink_bytes : SteadySink → List ℕ
steady_sink_bytes s = s.held.bytes.items

-- how many bytes it may hold
abbrev pub steady_sink_room : SteadySink → ℕ
steady_sink_room s = s.held.room

-- for how many bytes it has taken memory
abbrev pub steady_sink_reserved : SteadySink → ℕ
steady_sink_reserved s = vec_capacity s.held.bytes

-- how many writes have failed
abbrev pub steady_sink_faults : SteadySink → ℕ
steady_sink_faults s = s.faults
