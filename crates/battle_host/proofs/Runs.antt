-- How a run ends: refused before it starts, or by the worlds that it wrote.
use Rattle.std.proofs.Common.{◌≡◌, ℕ, true, false, ◌++◌, List, [], Option, None, Some, IfSome, Result, Ok, Err, refl, sym, ap, subst, inl, inr}
use Rattle.std.proofs.KnownBytes.{Appends-nil}
use Rattle.std.specs.Prelude.{◌⊎◌}
use Rattle.std.specs.Io.KnownBytes.{Appends, Keeps}
use Rattle.sgl_outside.specs.Folders.{Files}
use Rattle.sgl_outside.specs.Sinks.{AppendsPrefix, Writes}
use Rattle.sgl_typed.specs.declared.schema.Schema.{Schema}
use Rattle.sgl_typed.specs.declared.script.TScript.{TScript}
use Rattle.sgl_typed.specs.declared.tick_fault.TickFault.TheVariants as tick
use Rattle.env_table.specs.Table.{Table}
use Rattle.battle_host.specs.declared.status.Status.{Status}
use Rattle.battle_host.specs.declared.status.Status.TheVariants as status
use Rattle.battle_host.specs.declared.status.ScriptRefusal.{ScriptRefusal}
use Rattle.battle_host.specs.declared.status.UnitRefusal.{UnitRefusal}
use Rattle.battle_host.specs.Explain.{Explains, shown_plan}
use Rattle.battle_host.specs.Play.{PlaysWatched, is_told, reach_lines, run_end, run_of, run_text}
use Rattle.battle_host.specs.Run.{Ends, IsCut, Run, WritesCut, WritesLine, WritesRun, WritesText, no_script, no_units, worlds}
use Rattle.battle_host.specs.Source.{script_bytes, units_bytes}
use Rattle.battle_host.specs.Start.{HasUnits, PassesScript, RefusesScript, RefusesUnitsOf, StartRefused, holds_no_memory, no_schema}
use Rattle.battle_host.specs.StatusLine.{line_of}
use Rattle.battle_algebra.specs.declared.plan.Node.{Node}
use Rattle.battle_report.specs.declared.watch_line.Look.{Look}
use Rattle.battle_watch.specs.Watches.{AreWatches, watch_text}
use Rattle.battle_words.specs.Words.{Settings}

-- a status that the words or the bytes gave is no fault of the outside and no want of memory
told_ends : (settings : Option Settings) (held : Option Files) (before now : List ℕ → ℕ) (old new : Option (List ℕ)) (i j : ℕ) (schema : Schema) (end : Status)
    → is_told end ≡ true → holds_no_memory end ≡ true → (end ≡ status.Usage → settings ≡ None) → (settings ≡ None → (end ≡ status.Usage) ⊎ (end ≡ status.Memory))
    → IfSome held (λ files. WritesText settings files end schema old new) → Ends settings held before now old new i j schema end
told_ends settings held before now old new i j schema end told free usage others wrote = record {
  run = λ e. wrote;
  usage = usage;
  no_words = others;
  read_fault = λ e. absurd (untold status.ReadFault e refl);
  unread = λ e. absurd (untold status.ReadFault e refl);
  write_fault = λ e. absurd (untold status.WriteFault e refl);
  cut = λ e. absurd (untold status.WriteFault e refl);
  memory = free;
  ended = λ e. absurd (untold status.Memory e refl);
}
  where
    untold : (other : Status) → end ≡ other → is_told other ≡ false → ⊥
    untold other e not_told = absurd (cc (told, ap is_told e, not_told))

-- ---- words that give no settings

pub usage_ends : (held : Option Files) (before now : List ℕ → ℕ) (old : Option (List ℕ)) (i : ℕ) (schema : Schema) → Ends None held before now old old i i schema status.Usage
usage_ends held before now old i schema =
    told_ends None held before now old old i i schema status.Usage refl refl (λ e. refl) (λ e. inl refl) (nothing held)
  where
    nothing : (held : Option Files) → IfSome held (λ files. WritesText None files status.Usage schema old old)
    nothing None = tt
    nothing (Some files) = ([], (refl, refl), Appends-nil old)

-- want of memory, where nothing or a prefix of the plan and the worlds was written
short_ends : (settings : Option Settings) (held : Option Files) (before now : List ℕ → ℕ) (old new : Option (List ℕ)) (i j : ℕ) (schema : Schema)
    → IfSome held (λ files. IsCut settings files old new) → Ends settings held before now old new i j schema status.Memory
short_ends settings held before now old new i j schema cut = record {
  run = λ e. absurd (cc e);
  usage = λ e. absurd (cc e);
  no_words = λ e. inr refl;
  read_fault = λ e. absurd (cc e);
  unread = λ e. absurd (cc e);
  write_fault = λ e. absurd (cc e);
  cut = λ e. absurd (cc e);
  memory = refl;
  ended = λ e. cut;
}

-- want of memory before anything was written
pub memory_ends : (settings : Option Settings) (held : Option Files) (before now : List ℕ → ℕ) (old : Option (List ℕ)) (i : ℕ) (schema : Schema) → Keeps old old
    → Ends settings held before now old old i i schema status.Memory
memory_ends settings held before now old i schema same = short_ends settings held before now old old i i schema (nothing held)
  where
    nothing : (held : Option Files) → IfSome held (λ files. IsCut settings files old old)
    nothing None = tt
    nothing (Some files) = inl same

-- ---- runs that are refused before they start

module _ (s : Settings) (before now : List ℕ → ℕ) (old : Option (List ℕ)) (i : ℕ) where
  abbrev RefusedEnds : Option Files → Schema → Status → Type 0
  RefusedEnds held schema end = Ends (Some s) held before now old old i i schema end

  abbrev Nothing : Option Files → Schema → Status → Type 0
  Nothing held schema end = IfSome held (λ files. WritesText (Some s) files end schema old old)

  no_script_text : (held : Option Files) (end : Status) → IfSome held (λ files. RefusesScript (script_bytes s files) end) → Nothing held no_schema end
  no_script_text None end refused = tt
  no_script_text (Some files) end refused = ([], no_script end refused, Appends-nil old)

  no_units_text : (held : Option Files) (schema : Schema) (end : Status) → IfSome held (λ files. RefusesUnitsOf (script_bytes s files) (units_bytes s files) schema end) → Nothing held schema end
  no_units_text None schema end refused = tt
  no_units_text (Some files) schema end refused =
      ([], subst (λ names. Run (Some s) files end [] names) (sym refused.3) (no_units refused.0 end refused.1 refused.2), Appends-nil old)

  script_ends : (held : Option Files) (r : ScriptRefusal) → holds_no_memory (status.Script r) ≡ true → IfSome held (λ files. RefusesScript (script_bytes s files) (status.Script r))
      → RefusedEnds held no_schema (status.Script r)
  script_ends held r free refused =
      told_ends (Some s) held before now old old i i no_schema (status.Script r) refl free (λ e. absurd (cc e)) (λ e. absurd (cc e)) (no_script_text held (status.Script r) refused)

  units_ends : (held : Option Files) (schema : Schema) (r : UnitRefusal) → holds_no_memory (status.Units r) ≡ true
      → IfSome held (λ files. RefusesUnitsOf (script_bytes s files) (units_bytes s files) schema (status.Units r)) → RefusedEnds held schema (status.Units r)
  units_ends held schema r free refused =
      told_ends (Some s) held before now old old i i schema (status.Units r) refl free (λ e. absurd (cc e)) (λ e. absurd (cc e)) (no_units_text held schema (status.Units r) refused)

  scripted : (held : Option Files) (schema : Schema) (r : ScriptRefusal) → holds_no_memory (status.Script r) ≡ true
      → IfSome held (λ files. RefusesScript (script_bytes s files) (status.Script r)) × (schema ≡ no_schema) → RefusedEnds held schema (status.Script r)
  scripted held schema r free refused = subst (λ names. RefusedEnds held names (status.Script r)) (sym refused.1) (script_ends held r free refused.0)

  pub refused_ends : (held : Option Files) (schema : Schema) (end : Status) → Keeps old old → StartRefused s.input s.seed held before now schema end → RefusedEnds held schema end
  refused_ends held schema status.ReadFault same refused = record {
    run = λ e. absurd (cc e);
    usage = λ e. absurd (cc e);
    no_words = λ e. absurd (cc e);
    read_fault = λ e. refused;
    unread = λ e. same;
    write_fault = λ e. absurd (cc e);
    cut = λ e. absurd (cc e);
    memory = refl;
    ended = λ e. absurd (cc e);
  }
  refused_ends held schema status.Memory same refused = memory_ends (Some s) held before now old i schema same
  refused_ends held schema (status.Script r) same refused = scripted held schema r refused.0 (refused.1, refused.2)
  refused_ends held schema (status.Units r) same refused = units_ends held schema r refused.0 refused.1
  refused_ends held schema end same refused = absurd refused

-- ---- runs that wrote worlds

module _ (s : Settings) (passed : TScript) (start : Table) (plan : Option (List Node)) (explained : Explains s.explain passed plan) (watches : List (List Look))
    (are : AreWatches (run_of s passed start).worlds s.watch s.looks watches) (before now : List ℕ → ℕ) (old new : Option (List ℕ)) (i j : ℕ) where
  abbrev front : List ℕ
  front = shown_plan passed plan ++ run_text s.summary passed.schema (reach_lines plan passed s.seed) (run_of s passed start)

  abbrev whole : List ℕ
  whole = front ++ watch_text 0 watches

  abbrev last : Status
  last = run_end (run_of s passed start)

  abbrev Starts : Files → Type 0
  Starts files = PassesScript (script_bytes s files) passed × HasUnits passed.schema (units_bytes s files) start

  abbrev PlayedEnds : Option Files → Status → Type 0
  PlayedEnds held end = Ends (Some s) held before now old new i j passed.schema end

  wrote_all : (held : Option Files) (end : Status) → IfSome held Starts → Appends old new whole → last ≡ end → IfSome held (λ files. WritesText (Some s) files end passed.schema old new)
  wrote_all None end started wrote is = tt
  wrote_all (Some files) end started wrote is = (whole, subst (λ e. Run (Some s) files e whole passed.schema) is (worlds passed start plan watches started.0 started.1 explained are), wrote)

  wrote_some : (held : Option Files) → IfSome held Starts → AppendsPrefix old new whole → IfSome held (λ files. WritesCut (Some s) files old new)
  wrote_some None started cut = tt
  wrote_some (Some files) started cut = (last, whole, passed.schema, worlds passed start plan watches started.0 started.1 explained are, cut)

  wrote_front : (held : Option Files) → IfSome held Starts → AppendsPrefix old new front → IfSome held (λ files. IsCut (Some s) files old new)
  wrote_front None started cut = tt
  wrote_front (Some files) started cut = inr (passed, start, plan, started.0, started.1, explained, cut)

  told : (held : Option Files) (end : Status) → is_told end ≡ true → holds_no_memory end ≡ true → (end ≡ status.Usage → Some s ≡ None) → IfSome held Starts
      → Appends old new whole × (last ≡ end) → PlayedEnds held end
  told held end is free usage started plays =
      told_ends (Some s) held before now old new i j passed.schema end is free usage (λ e. absurd (cc e)) (wrote_all held end started plays.0 plays.1)

  played_ends : (held : Option Files) (end : Status) → IfSome held Starts → PlaysWatched old new i j front (watch_text 0 watches) last end → PlayedEnds held end
  played_ends held status.Done started plays = told held status.Done refl refl (λ e. absurd (cc e)) started plays
  played_ends held (status.Battle t tick.Memory) started plays = absurd plays
  played_ends held (status.Battle t (tick.Items limit)) started plays = told held (status.Battle t (tick.Items limit)) refl refl (λ e. absurd (cc e)) started plays
  played_ends held (status.Battle t (tick.Script key f)) started plays = told held (status.Battle t (tick.Script key f)) refl refl (λ e. absurd (cc e)) started plays
  played_ends held (status.Battle t (tick.Cell key attr)) started plays = told held (status.Battle t (tick.Cell key attr)) refl refl (λ e. absurd (cc e)) started plays
  played_ends held (status.Battle t (tick.Post key f)) started plays = told held (status.Battle t (tick.Post key f)) refl refl (λ e. absurd (cc e)) started plays
  played_ends held (status.Battle t (tick.KeysSpent key children)) started plays = told held (status.Battle t (tick.KeysSpent key children)) refl refl (λ e. absurd (cc e)) started plays
  played_ends held (status.Battle t (tick.UnitsFull units)) started plays = told held (status.Battle t (tick.UnitsFull units)) refl refl (λ e. absurd (cc e)) started plays
  played_ends held status.WriteFault started plays = record {
    run = λ e. absurd (cc e);
    usage = λ e. absurd (cc e);
    no_words = λ e. absurd (cc e);
    read_fault = λ e. absurd (cc e);
    unread = λ e. absurd (cc e);
    write_fault = λ e. plays.0;
    cut = λ e. wrote_some held started plays.1;
    memory = refl;
    ended = λ e. absurd (cc e);
  }
  played_ends held status.Memory started plays = short_ends (Some s) held before now old new i j passed.schema (wrote_front held started plays)
  played_ends held status.Usage started plays = absurd plays
  played_ends held status.ReadFault started plays = absurd plays
  played_ends held (status.Script r) started plays = absurd plays
  played_ends held (status.Units r) started plays = absurd plays

  started : (held : Option Files) → IfSome held (λ files. PassesScript (script_bytes s files) passed)
      → IfSome held (λ files. HasUnits passed.schema (units_bytes s files) start) → IfSome held Starts
  started None passes has = tt
  started (Some files) passes has = (passes, has)

  -- the same by what is told of the script and of the units
  pub played_by : (held : Option Files) (end : Status) → IfSome held (λ files. PassesScript (script_bytes s files) passed)
      → IfSome held (λ files. HasUnits passed.schema (units_bytes s files) start) → PlaysWatched old new i j front (watch_text 0 watches) last end → PlayedEnds held end
  played_by held end passes has plays = played_ends held end (started held passes has) plays

-- ---- the line

-- a line that was written, or cut
pub line_written : {T E : Type 0} (r : Result T E) (old new : Option (List ℕ)) (before now : ℕ) (line : List ℕ) → Writes old new before now r line → WritesLine old new before now line
line_written (Ok x) old new before now line wrote = (wrote.later, inl wrote.whole)
line_written (Err e) old new before now line wrote = (wrote.later, inr wrote.cut)

-- the text of a run, and its line
pub with_line : (settings : Option Settings) (held : Option Files) (end : Status) (schema : Schema) (old new line_old line_new : Option (List ℕ)) (before now : ℕ)
    → IfSome held (λ files. WritesText settings files end schema old new) → WritesLine line_old line_new before now (line_of schema end)
    → IfSome held (λ files. WritesRun settings files end old new line_old line_new before now)
with_line settings None end schema old new line_old line_new before now wrote line = tt
with_line settings (Some files) end schema old new line_old line_new before now wrote line = (wrote.0, schema, wrote.1, wrote.2, line)
