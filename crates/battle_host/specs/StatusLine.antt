-- The line and the exit status of a run.
use Rattle.std.specs.Prelude.{ℕ, List, [], codes}
use Rattle.sgl_typed.specs.declared.schema.Schema.{Schema}
use Rattle.battle_report.specs.FaultLines.{script_line, tick_line, unit_line}
use Rattle.battle_host.specs.declared.status.Status.{Status}
use Rattle.battle_host.specs.declared.status.Status.TheVariants as status
use Rattle.battle_host.specs.declared.status.ScriptRefusal.TheVariants as script
use Rattle.battle_host.specs.declared.status.UnitRefusal.TheVariants as units

-- the line that a status has on the error sink, where the attributes have these names
abbrev pub line_of : Schema → Status → List ℕ
line_of schema status.Done = []
line_of schema status.Usage = codes "usage: battle TICKS --script FILE --units FILE or battle TICKS --sample N\n"
line_of schema status.ReadFault = codes "read fault\n"
line_of schema status.WriteFault = codes "write fault\n"
line_of schema (status.Script (script.Fault f)) = script_line f
line_of schema (status.Script script.TooLong) = codes "script: too long\n"
line_of schema (status.Units (units.Fault f)) = unit_line schema f
line_of schema (status.Units units.TooLong) = codes "units: too long\n"
line_of schema (status.Battle t f) = tick_line schema t f
line_of schema status.Memory = codes "out of memory\n"

-- the exit status of the program
abbrev pub exit_status : Status → ℕ
exit_status status.Done = 0
exit_status status.Usage = 2
exit_status status.ReadFault = 3
exit_status status.WriteFault = 4
exit_status (status.Script r) = 5
exit_status (status.Units r) = 6
exit_status (status.Battle t f) = 7
exit_status status.Memory = 8
