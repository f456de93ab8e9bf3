-- What the files make a run start with, or the refusal that they give.
use Rattle.std.specs.Prelude.{◌≡◌, ◌<◌, ◌≤◌, ◌⊎◌, ℕ, Bool, true, false, List, [], length, Option, None, Some, IfSome, Ok, Err, ⊤, refl}
use Rattle.sgl_outside.specs.Causes.{Rose}
use Rattle.sgl_outside.specs.Folders.{Files}
use Rattle.sgl_lexer.specs.declared.fault.LexFault.TheVariants as lexical
use Rattle.sgl_parser.specs.declared.parser.ParseFault.TheVariants as parsing
use Rattle.sgl_types.specs.declared.type_fault.TypeFault.TheVariants as typing
use Rattle.sgl_typed.specs.declared.schema.Schema.{Schema}
use Rattle.sgl_typed.specs.declared.script.TScript.{TScript}
use Rattle.sgl_typed.specs.declared.tick_fault.TickFault.TheVariants as tick
use Rattle.env_table.specs.Table.{Table}
use Rattle.unit_csv.specs.declared.faults.UnitFault.TheVariants.{Memory as OutOfMemory}
use Rattle.unit_csv.specs.Units.{units_of}
use Rattle.battle_host.specs.declared.status.Status.{Status}
use Rattle.battle_host.specs.declared.status.Status.TheVariants as status
use Rattle.battle_host.specs.declared.status.ScriptRefusal.TheVariants as script
use Rattle.battle_compile.specs.declared.fault.ScriptFault.TheVariants as fault
use Rattle.battle_host.specs.declared.status.UnitRefusal.TheVariants as units
use Rattle.battle_compile.specs.ScriptText.{IsScriptFault, IsScriptText}
use Rattle.battle_host.specs.Source.{script_from, units_from}
use Rattle.battle_maker.specs.Sample.{sample_script, units_text}
use Rattle.battle_words.specs.declared.command_line.Input.{Input}
use Rattle.battle_words.specs.declared.command_line.Input.TheVariants as inputs
use Rattle.sgl_values.specs.declared.limit.TheConstants.{SCRIPT_BYTES_MAX, UNITS_BYTES_MAX}

-- want of memory stands inside no other status
abbrev pub holds_no_memory : Status → Bool
holds_no_memory (status.Script (script.Fault fault.Memory)) = false
holds_no_memory (status.Script (script.Fault (fault.Lex lexical.Memory))) = false
holds_no_memory (status.Script (script.Fault (fault.Parse parsing.Memory))) = false
holds_no_memory (status.Script (script.Fault (fault.Types typing.Memory))) = false
holds_no_memory (status.Units (units.Fault OutOfMemory)) = false
holds_no_memory (status.Battle t tick.Memory) = false
holds_no_memory _ = true

-- ---- the script, by what is held under its name

-- It is within its limit, and has this script.
abbrev pub PassesScript : Option (List ℕ) → TScript → Type 0
PassesScript None s = ⊥
PassesScript (Some bytes) s = (length bytes ≤ SCRIPT_BYTES_MAX) × IsScriptText bytes s

-- Some script passes there.
abbrev pub HasScript : Option (List ℕ) → Type 0
HasScript held = (s : TScript) × PassesScript held s

-- It is refused with this status: not held, too long, or faulty.
abbrev pub RefusesScript : Option (List ℕ) → Status → Type 0
RefusesScript None status.ReadFault = ⊤
RefusesScript None other = ⊥
RefusesScript (Some bytes) (status.Script script.TooLong) = SCRIPT_BYTES_MAX < length bytes
RefusesScript (Some bytes) (status.Script (script.Fault fault.Memory)) = ⊥
RefusesScript (Some bytes) (status.Script (script.Fault f)) = (length bytes ≤ SCRIPT_BYTES_MAX) × IsScriptFault bytes f
RefusesScript (Some bytes) other = ⊥

-- ---- the units, by what is held under their name

-- It is within its limit, and is a table of this world.
abbrev pub HasUnits : Schema → Option (List ℕ) → Table → Type 0
HasUnits schema None table = ⊥
HasUnits schema (Some bytes) table = (length bytes ≤ UNITS_BYTES_MAX) × (units_of bytes schema ≡ Ok table)

-- It is refused with this status: not held, too long, or faulty.
abbrev pub RefusesUnits : Schema → Option (List ℕ) → Status → Type 0
RefusesUnits schema None status.ReadFault = ⊤
RefusesUnits schema None other = ⊥
RefusesUnits schema (Some bytes) (status.Units units.TooLong) = UNITS_BYTES_MAX < length bytes
RefusesUnits schema (Some bytes) (status.Units (units.Fault OutOfMemory)) = ⊥
RefusesUnits schema (Some bytes) (status.Units (units.Fault f)) = (length bytes ≤ UNITS_BYTES_MAX) × (units_of bytes schema ≡ Err f)
RefusesUnits schema (Some bytes) other = ⊥

-- ---- why a run of two files did not start

abbrev pub ScriptStartRefused : Option Files → (List ℕ → ℕ) → (List ℕ → ℕ) → List ℕ → Status → Type 0
ScriptStartRefused held before now name status.ReadFault = Rose (before name) (now name)
ScriptStartRefused held before now name (status.Script r) = (holds_no_memory (status.Script r) ≡ true) × IfSome held (λ files. RefusesScript (files name) (status.Script r))
ScriptStartRefused held before now name status.Memory = ⊤
ScriptStartRefused held before now name other = ⊥

abbrev pub UnitStartRefused : Option Files → (List ℕ → ℕ) → (List ℕ → ℕ) → Schema → List ℕ → Status → Type 0
UnitStartRefused held before now schema name status.ReadFault = Rose (before name) (now name)
UnitStartRefused held before now schema name (status.Units r) = (holds_no_memory (status.Units r) ≡ true) × IfSome held (λ files. RefusesUnits schema (files name) (status.Units r))
UnitStartRefused held before now schema name status.Memory = ⊤
UnitStartRefused held before now schema name other = ⊥

-- no names, where no script was read
abbrev pub no_schema : Schema
no_schema = record { consts = []; effects = []; fits = refl }

-- ---- why a run of a sample did not start

abbrev pub ScriptTextRefused : List ℕ → Status → Type 0
ScriptTextRefused bytes (status.Script r) = (holds_no_memory (status.Script r) ≡ true) × RefusesScript (Some bytes) (status.Script r)
ScriptTextRefused bytes status.Memory = ⊤
ScriptTextRefused bytes other = ⊥

abbrev pub UnitTextRefused : Schema → List ℕ → Status → Type 0
UnitTextRefused schema bytes (status.Units r) = (holds_no_memory (status.Units r) ≡ true) × RefusesUnits schema (Some bytes) (status.Units r)
UnitTextRefused schema bytes status.Memory = ⊤
UnitTextRefused schema bytes other = ⊥

-- its script was refused, or its units
abbrev pub SampleRefused : ℕ → ℕ → Schema → Status → Type 0
SampleRefused count seed schema end =
    (ScriptTextRefused sample_script end × (schema ≡ no_schema))
    ⊎ ((s : TScript) × PassesScript (Some sample_script) s × UnitTextRefused s.schema (units_text count seed) end × (schema ≡ s.schema))

-- ---- why a run did not start

-- The folder failed at the script, or at the units of a script that is not refused; for a sample no file is read.
abbrev pub HasReadFault : Option Files → (List ℕ → ℕ) → (List ℕ → ℕ) → Input → Type 0
HasReadFault held before now (inputs.Files script_name units_name) = Rose (before script_name) (now script_name)
    ⊎ (Rose (before units_name) (now units_name) × IfSome held (λ files. HasScript (files script_name)))
HasReadFault held before now (inputs.Sample count) = ⊥

-- The units of a script that passes, with these names, are refused with this status.
abbrev pub RefusesUnitsOf : Option (List ℕ) → Option (List ℕ) → Schema → Status → Type 0
RefusesUnitsOf script_text units_text schema end =
    (s : TScript) × PassesScript script_text s × RefusesUnits s.schema units_text end × (schema ≡ s.schema)

abbrev pub StartRefused : Input → ℕ → Option Files → (List ℕ → ℕ) → (List ℕ → ℕ) → Schema → Status → Type 0
StartRefused input seed held before now schema status.ReadFault = HasReadFault held before now input
StartRefused input seed held before now schema (status.Script r) = (holds_no_memory (status.Script r) ≡ true)
    × IfSome held (λ files. RefusesScript (script_from input files) (status.Script r)) × (schema ≡ no_schema)
StartRefused input seed held before now schema (status.Units r) = (holds_no_memory (status.Units r) ≡ true)
    × IfSome held (λ files. RefusesUnitsOf (script_from input files) (units_from input seed files) schema (status.Units r))
StartRefused input seed held before now schema status.Memory = ⊤
StartRefused input seed held before now schema other = ⊥
