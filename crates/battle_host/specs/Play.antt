-- The text of the worlds of a run, and how the run ends.
use Rattle.std.specs.Prelude.{◌≡◌, ℕ, ◌≤◌, Bool, true, false, List, [], ◌∷◌, ◌++◌, length, map, slice_get, Option, None, Some, IfSome, Result, Ok, Err, IfOk}
use Rattle.std.specs.List.{range_with_len}
use Rattle.std.specs.Io.KnownBytes.{Appends}
use Rattle.sgl_outside.specs.Causes.{Rose}
use Rattle.sgl_outside.specs.Sinks.{AppendsPrefix}
use Rattle.sgl_values.specs.World.{World}
use Rattle.sgl_typed.specs.declared.schema.Schema.{Schema}
use Rattle.sgl_typed.specs.declared.tick_fault.TickFault.{TickFault}
use Rattle.sgl_typed.specs.declared.tick_fault.TickFault.TheVariants as tick
use Rattle.sgl_typed.specs.declared.script.TScript.{TScript}
use Rattle.sgl_typed.specs.Items.{start_with}
use Rattle.sgl_typed.specs.Tick.{Run, worlds}
use Rattle.sgl_typed.specs.WrittenOut.{is_written_out}
use Rattle.battle_algebra.specs.Meaning.{reached}
use Rattle.battle_algebra.specs.Plans.{tree_in}
use Rattle.battle_algebra.specs.declared.plan.Node.{Node}
use Rattle.plan_translate.specs.Translation.{translation_slots}
use Rattle.task_scratch.specs.Scratch.{reach_at}
use Rattle.battle_report.specs.declared.watch_line.Look.{Look}
use Rattle.battle_report.specs.RunLines.{reach_line, summary_line}
use Rattle.battle_watch.specs.Stages.{with_shown}
use Rattle.battle_watch.specs.Watches.{AreWatches, watch_text}
use Rattle.battle_words.specs.Words.{AreWithin, Settings}
use Rattle.battle_words.specs.declared.command_line.RunSettings.{RunSettings}
use Rattle.env_table.specs.Table.{Table}
use Rattle.tick_engine.specs.State.{State}
use Rattle.unit_csv.specs.Lines.{world_text}
use Rattle.battle_host.specs.declared.status.Status.{Status}
use Rattle.battle_host.specs.declared.status.Status.TheVariants as status
use Rattle.sgl_values.specs.declared.limit.TheConstants.{ITEMS_MAX, TICKS_MAX}

-- ---- the worlds

-- what is written of a world: its summary where that is asked for, and else its lines
abbrev pub shown_text : Bool → Schema → World → List ℕ
shown_text true schema world = summary_line (record { world = world; width = length schema.consts })
shown_text false schema world = world_text world schema

-- what is written of the tick of a world, before the next world
abbrev pub Lines : Type 0
Lines = World → List ℕ

-- what is written behind a world: of each that follows, the line of the tick that made it, and then itself
abbrev pub behind_world : Bool → Schema → Lines → World → List World → List ℕ
behind_world summary schema line world [] = []
behind_world summary schema line world (next ∷ worlds) = (line world ++ shown_text summary schema next) ++ behind_world summary schema line next worlds

-- what is written of worlds, one after the other
abbrev pub worlds_text : Bool → Schema → Lines → List World → List ℕ
worlds_text summary schema line [] = []
worlds_text summary schema line (world ∷ worlds) = shown_text summary schema world ++ behind_world summary schema line world worlds

-- the text of a run, of summaries or of worlds
abbrev pub run_text : Bool → Schema → Lines → Run → List ℕ
run_text summary schema line run = worlds_text summary schema line run.worlds

-- ---- the plan

-- the nodes of the plan that is shown, where one is asked for
abbrev pub shown_nodes : Bool → List Node → Option (List Node)
shown_nodes false nodes = None
shown_nodes true nodes = Some nodes

-- how many frames reach each of so many nodes, in the tick of a world: one enters for each row
abbrev pub frames_counts : List Node → ℕ → TScript → ℕ → World → List ℕ
frames_counts nodes slots script seed world = map (reach_at (reached (tree_in nodes) (map (start_with slots script world seed) world.rows))) (range_with_len 0 (length nodes))

-- the line of a tick of the plan that is shown
abbrev pub reach_lines : Option (List Node) → TScript → ℕ → Lines
reach_lines None script seed world = []
reach_lines (Some nodes) script seed world = reach_line world.tick (frames_counts nodes (translation_slots script) script seed world)

-- the tick of the last of these worlds, and this one where there is none
abbrev pub last_tick : ℕ → List World → ℕ
last_tick t [] = t
last_tick t (world ∷ worlds) = last_tick world.tick worlds

-- the status of a run whose last world is that of this tick
abbrev pub status_at : ℕ → Option TickFault → Status
status_at t None = status.Done
status_at t (Some fault) = status.Battle t fault

-- how a run ends: with the refusal of the tick from its last world
abbrev pub run_end : Run → Status
run_end run = status_at (last_tick 0 run.worlds) run.end

-- the worlds of a script from a world, with these settings
abbrev pub run_of : Settings → TScript → Table → Run
run_of s script table = worlds script table.world s.seed s.items s.ticks

-- ---- what was written

-- A run that was to write this text and to have this end: it did, or a write failed, or memory was wanting, with a
-- prefix of the text.
abbrev pub Plays : Option (List ℕ) → Option (List ℕ) → ℕ → ℕ → List ℕ → Status → Status → Type 0
Plays old new before now text end status.WriteFault = Rose before now × AppendsPrefix old new text
Plays old new before now text end status.Memory = AppendsPrefix old new text
Plays old new before now text end status.Done = Appends old new text × (end ≡ status.Done)
Plays old new before now text end (status.Battle t tick.Memory) = ⊥
Plays old new before now text end (status.Battle t f) = Appends old new text × (end ≡ status.Battle t f)
Plays old new before now text end other = ⊥

-- the words or the bytes gave this status, and nothing outside of them
abbrev pub is_told : Status → Bool
is_told status.ReadFault = false
is_told status.WriteFault = false
is_told status.Memory = false
is_told _ = true

-- The same of a run with spectators, whose lines stand behind that text. Where memory was wanting, no line was begun.
abbrev pub PlaysWatched : Option (List ℕ) → Option (List ℕ) → ℕ → ℕ → List ℕ → List ℕ → Status → Status → Type 0
PlaysWatched old new before now text lines end status.Memory = AppendsPrefix old new text
PlaysWatched old new before now text lines end other = Plays old new before now (text ++ lines) end other

-- A run of these settings of the script and its first world, behind the plan: the worlds, with the lines of the ticks of the
-- plan where it is shown, and then the lines of what the spectators may have noted of them.
abbrev pub PlaysWorlds : Option (List ℕ) → Option (List ℕ) → ℕ → ℕ → Settings → TScript → Option (List Node) → Table → Status → Type 0
PlaysWorlds old new before now s script plan table end =
    (watches : List (List Look)) × AreWatches (run_of s script table).worlds s.watch s.looks watches
    × PlaysWatched old new before now (run_text s.summary script.schema (reach_lines plan script s.seed) (run_of s script table)) (watch_text 0 watches) (run_end (run_of s script table)) end

-- ---- the ticks

-- the plan of a battle may be shown: it has the slots of the script's translation, and the ticks are run by it
abbrev pub IsPlanned : Bool → State → Type 0
IsPlanned explain battle = (battle.plan.plan.slots ≡ translation_slots battle.script) × (explain ≡ true → battle.settings.plain ≡ false)

-- a battle before its first tick has what the words of its run say
pub record IsBegun (run : RunSettings) (battle : State) : Type 0 where
  pub within : AreWithin run
  pub written_out : is_written_out battle.script ≡ true
  pub width : battle.world.width ≡ length battle.script.schema.consts
  pub first : battle.world.world.tick ≡ 0
  pub seed : battle.settings.seed ≡ run.seed
  pub items : battle.settings.items ≡ run.items
  pub planned : IsPlanned run.explain battle

-- the lines of the ticks of a battle, where its plan is shown
abbrev pub lines_of : Bool → State → Lines
lines_of explain battle = reach_lines (shown_nodes explain battle.plan.plan.nodes) battle.script battle.settings.seed

-- The worlds of a run from this table on, of which a stage, where there is one, has shown the first.
pub record IsReady (all : List World) (script : TScript) (table : Table) (seed items ticks : ℕ) (stage : Option ℕ) : Type 0 where
  pub written_out : is_written_out script ≡ true
  pub few : items ≤ ITEMS_MAX
  pub limit : ticks ≤ TICKS_MAX
  pub width : table.width ≡ length script.schema.consts
  pub first : table.world.tick ≡ 0
  pub one : stage ≡ with_shown 1 stage
  pub all_are : all ≡ (worlds script table.world seed items ticks).worlds

-- What the ticks of a run did, of these worlds and with this end: the worlds were written as far as they came, and where the
-- run is told, a stage has shown all of them. The script stays.
pub record Played (old new : Option (List ℕ)) (before now : ℕ) (summary : Bool) (line : Lines) (script script_after : TScript) (all : List World) (end : Status) (s : Status) (stage_old stage_new : Option ℕ) : Type 0 where
  pub plays : Plays old new before now (worlds_text summary script.schema line all) end s
  pub later : before ≤ now
  pub shown : is_told s ≡ true → stage_new ≡ with_shown (length all) stage_old
  pub kept : script_after ≡ script

-- the world behind a tick, where there is one, stands at the position that a stage shows next
abbrev pub IsNext : List World → Option ℕ → Result World TickFault → Type 0
IsNext all stage ticked = IfOk ticked (λ next. IfSome stage (λ position. slice_get all position ≡ Some next))

-- want of memory is a status of its own
abbrev pub status_of : ℕ → TickFault → Status
status_of t tick.Memory = status.Memory
status_of t f = status.Battle t f

-- the line of a tick by the counts of the nodes, where the plan is shown
abbrev pub told_reach : Bool → ℕ → List Node → List ℕ → List ℕ
told_reach false at nodes reached = []
told_reach true at nodes reached = reach_line at (map (reach_at reached) (range_with_len 0 (length nodes)))

-- It was written, or the sink failed behind a prefix of it, or memory was wanting and nothing was written.
abbrev pub IsShown : Option (List ℕ) → Option (List ℕ) → ℕ → ℕ → List ℕ → Result (Unit {0}) Status → Type 0
IsShown old new before now text (Ok u) = (before ≤ now) × Appends old new text
IsShown old new before now text (Err status.WriteFault) = (before ≤ now) × Rose before now × AppendsPrefix old new text
IsShown old new before now text (Err status.Memory) = (before ≤ now) × AppendsPrefix old new text
IsShown old new before now text (Err other) = ⊥

-- the text behind a tick, and none behind a refused one
abbrev pub behind_text : Bool → Schema → List ℕ → Result World TickFault → List ℕ
behind_text summary schema line (Ok world) = line ++ shown_text summary schema world
behind_text summary schema line (Err fault) = []

-- what a turn came to, with the world that it left
abbrev pub turned_to : Table → Result (Unit {0}) Status → Result Table Status
turned_to table (Ok u) = Ok table
turned_to table (Err s) = Err s

-- What one turn did, from a world of this tick: it wrote the line of the tick and the next world, or it ended the run.
abbrev pub IsTurn : Option (List ℕ) → Option (List ℕ) → ℕ → ℕ → Bool → Schema → List ℕ → Table → Result World TickFault → Result Table Status → Type 0
IsTurn old new before now summary schema line table ticked (Ok next) = (before ≤ now)
    × (ticked ≡ Ok next.world)
    × Appends old new (line ++ shown_text summary schema next.world)
    × (next.width ≡ table.width)
IsTurn old new before now summary schema line table ticked (Err status.WriteFault) = Rose before now × AppendsPrefix old new (behind_text summary schema line ticked)
IsTurn old new before now summary schema line table ticked (Err status.Memory) = AppendsPrefix old new (behind_text summary schema line ticked)
IsTurn old new before now summary schema line table ticked (Err (status.Battle t tick.Memory)) = ⊥
IsTurn old new before now summary schema line table ticked (Err (status.Battle t f)) = Appends old new []
    × (t ≡ table.world.tick)
    × (ticked ≡ Err f)
IsTurn old new before now summary schema line table ticked (Err other) = ⊥
