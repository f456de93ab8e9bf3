-- The status, the text and the line of a run over files that tell their bytes.
use Rattle.std.specs.Prelude.{◌≡◌, ◌≤◌, ◌⊎◌, ◌++◌, ℕ, true, List, [], Option, None, Some, IfSome}
use Rattle.std.specs.Io.KnownBytes.{Appends, Keeps}
use Rattle.sgl_outside.specs.Causes.{Rose}
use Rattle.sgl_outside.specs.Folders.{Files}
use Rattle.sgl_outside.specs.Sinks.{AppendsPrefix}
use Rattle.sgl_typed.specs.declared.schema.Schema.{Schema}
use Rattle.sgl_typed.specs.declared.script.TScript.{TScript}
use Rattle.env_table.specs.Table.{Table}
use Rattle.battle_host.specs.declared.status.Status.{Status}
use Rattle.battle_host.specs.declared.status.Status.TheVariants as status
use Rattle.battle_host.specs.Explain.{Explains, shown_plan}
use Rattle.battle_host.specs.Play.{is_told, reach_lines, run_end, run_of, run_text}
use Rattle.battle_host.specs.Source.{script_bytes, units_bytes}
use Rattle.battle_host.specs.Start.{HasReadFault, HasUnits, PassesScript, RefusesScript, RefusesUnits, holds_no_memory, no_schema}
use Rattle.battle_host.specs.StatusLine.{line_of}
use Rattle.battle_algebra.specs.declared.plan.Node.{Node}
use Rattle.battle_report.specs.declared.watch_line.Look.{Look}
use Rattle.battle_watch.specs.Watches.{AreWatches, watch_text}
use Rattle.battle_words.specs.Words.{Settings}

-- The settings and the files make a run end with this status, this text and the line of these names, in exactly these
-- cases.
pub data RunOf (s : Settings) (files : Files) : Status → List ℕ → Schema → Type 0 where
  -- the script is refused
  no_script : (end : Status) → RefusesScript (script_bytes s files) end → RunOf s files end [] no_schema
  -- the script is not refused, and the units are
  no_units : (passed : TScript) (end : Status) → PassesScript (script_bytes s files) passed → RefusesUnits passed.schema (units_bytes s files) end → RunOf s files end [] passed.schema
  -- neither is: the plan is written where it is asked for, then the worlds up to the last, or up to the refusal of a tick,
  -- with the line of each tick of that plan, and then a line for each spectator, with what it may have noted of these worlds
  worlds : (passed : TScript) (table : Table) (plan : Option (List Node)) (watches : List (List Look)) → PassesScript (script_bytes s files) passed → HasUnits passed.schema (units_bytes s files) table
      → Explains s.explain passed plan → AreWatches (run_of s passed table).worlds s.watch s.looks watches
      → RunOf s files (run_end (run_of s passed table)) ((shown_plan passed plan ++ run_text s.summary passed.schema (reach_lines plan passed s.seed) (run_of s passed table)) ++ watch_text 0 watches) passed.schema

-- The same of the settings that words give, where they give some; other words end in the usage line.
abbrev pub Run : Option Settings → Files → Status → List ℕ → Schema → Type 0
Run None files end text schema = (end ≡ status.Usage) × (text ≡ [])
Run (Some s) files end text schema = RunOf s files end text schema

-- A prefix of the text of a run was written.
abbrev pub WritesCut : Option Settings → Files → Option (List ℕ) → Option (List ℕ) → Type 0
WritesCut settings files old new = (end : Status) × (text : List ℕ) × (schema : Schema) × Run settings files end text schema × AppendsPrefix old new text

-- A prefix of the plan and the worlds of a run was written, and no line of a spectator was begun.
abbrev pub WritesWorlds : Option Settings → Files → Option (List ℕ) → Option (List ℕ) → Type 0
WritesWorlds None files old new = ⊥
WritesWorlds (Some s) files old new = (passed : TScript) × (table : Table) × (plan : Option (List Node)) × PassesScript (script_bytes s files) passed × HasUnits passed.schema (units_bytes s files) table
    × Explains s.explain passed plan × AppendsPrefix old new (shown_plan passed plan ++ run_text s.summary passed.schema (reach_lines plan passed s.seed) (run_of s passed table))

-- Nothing was written, or a prefix of the plan and the worlds of a run.
abbrev pub IsCut : Option Settings → Files → Option (List ℕ) → Option (List ℕ) → Type 0
IsCut settings files old new = Keeps old new ⊎ WritesWorlds settings files old new

-- The folder failed at one of the two files that the words name.
abbrev pub HasNamedFault : Option Settings → Option Files → (List ℕ → ℕ) → (List ℕ → ℕ) → Type 0
HasNamedFault None held before now = ⊥
HasNamedFault (Some s) held before now = HasReadFault held before now s.input

-- The line was written whole, or the sink failed and a prefix of it was written.
abbrev pub WritesLine : Option (List ℕ) → Option (List ℕ) → ℕ → ℕ → List ℕ → Type 0
WritesLine old new before now line = (before ≤ now) × (Appends old new line ⊎ (Rose before now × AppendsPrefix old new line))

-- The line of the status with some names; those of ReadFault, WriteFault and Memory tell no name.
abbrev pub WritesSomeLine : Option (List ℕ) → Option (List ℕ) → ℕ → ℕ → Status → Type 0
WritesSomeLine old new before now end = (schema : Schema) × WritesLine old new before now (line_of schema end)

-- The text of a run with this status was written, and its line.
abbrev pub WritesRun : Option Settings → Files → Status → Option (List ℕ) → Option (List ℕ) → Option (List ℕ) → Option (List ℕ) → ℕ → ℕ → Type 0
WritesRun settings files end old new line_old line_new before now =
    (text : List ℕ) × (schema : Schema) × Run settings files end text schema × Appends old new text × WritesLine line_old line_new before now (line_of schema end)

-- A text of a run with this status and these names was written.
abbrev pub WritesText : Option Settings → Files → Status → Schema → Option (List ℕ) → Option (List ℕ) → Type 0
WritesText settings files end schema old new = (text : List ℕ) × Run settings files end text schema × Appends old new text

-- What a run of settings did, by its status and the names for its line.
pub record Ends (settings : Option Settings) (held : Option Files) (files_before files_now : List ℕ → ℕ) (old new : Option (List ℕ)) (before now : ℕ) (schema : Schema) (end : Status) : Type 0 where
  pub run : is_told end ≡ true → IfSome held (λ files. WritesText settings files end schema old new)
  pub usage : end ≡ status.Usage → settings ≡ None
  pub no_words : settings ≡ None → (end ≡ status.Usage) ⊎ (end ≡ status.Memory)
  pub read_fault : end ≡ status.ReadFault → HasNamedFault settings held files_before files_now
  pub unread : end ≡ status.ReadFault → Keeps old new
  pub write_fault : end ≡ status.WriteFault → Rose before now
  pub cut : end ≡ status.WriteFault → IfSome held (λ files. WritesCut settings files old new)
  pub memory : holds_no_memory end ≡ true
  pub ended : end ≡ status.Memory → IfSome held (λ files. IsCut settings files old new)
