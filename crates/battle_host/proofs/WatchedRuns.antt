-- A run, and the lines of its spectators behind it.
use Rattle.std.proofs.Common.{◌≡◌, ◌+◌, ◌≤◌, ℕ, true, false, List, replicate, subst}
use Rattle.std.proofs.lemmas.Bool.{false≢true, true≢false}
use Rattle.std.specs.Prelude.{MatchResult, Option, Result, Ok, Err}
use Rattle.std.proofs.KnownBytes.{Appends-trans}
use Rattle.std.specs.Io.KnownBytes.{Appends}
use Rattle.sgl_outside.proofs.Writes.{prefix_after, prefix_more, rose_later}
use Rattle.sgl_values.specs.World.{World}
use Rattle.sgl_typed.specs.declared.script.TScript.{TScript}
use Rattle.sgl_typed.specs.declared.tick_fault.TickFault.TheVariants as faults
use Rattle.sgl_typed.specs.Tick.{Run}
use Rattle.env_table.specs.Table.{Table}
use Rattle.battle_algebra.specs.declared.plan.Node.{Node}
use Rattle.battle_report.specs.declared.watch_line.Look.{Look}
use Rattle.battle_watch.specs.Watches.{AreWatches, WritesWatches, look_of, watch_text}
use Rattle.battle_watch.proofs.Looks.{last_world, run_numbered, run_some, some_watches}
use Rattle.battle_words.specs.Words.{Settings}
use Rattle.battle_host.specs.Play.{Plays, PlaysWatched, PlaysWorlds, is_told, reach_lines, run_end, run_of, run_text}
use Rattle.battle_host.specs.declared.status.Status.{Status}
use Rattle.battle_host.specs.declared.status.Status.TheVariants as status

module _ (s : Settings) (script : TScript) (plan : Option (List Node)) (table : Table) where
  abbrev run : Run
  run = run_of s script table

  abbrev text : List ℕ
  text = run_text s.summary script.schema (reach_lines plan script s.seed) run

  abbrev last : Status
  last = run_end run

  -- spectators may have noted something, of any run
  pub some_notes : table.world.tick ≡ 0 → (watches : List (List Look)) × AreWatches run.worlds s.watch s.looks watches
  some_notes first = (
    replicate s.watch (replicate (s.looks + 1) (look_of (last_world run.worlds))),
    some_watches run.worlds s.watch s.looks (run_numbered script table.world s.seed s.items s.ticks first) (run_some script table.world s.seed s.items s.ticks),
  )

  -- a run that was cut is a cut of one with some lines
  pub cut_run : (a b : Option (List ℕ)) (i j : ℕ) (end : Status) → table.world.tick ≡ 0 → is_told end ≡ false → Plays a b i j text last end
      → PlaysWorlds a b i j s script plan table end
  cut_run a b i j status.WriteFault first told plays =
      let some : (watches : List (List Look)) × AreWatches run.worlds s.watch s.looks watches = some_notes first in
      (some.0, some.1, (plays.0, prefix_more a b text (watch_text 0 some.0) plays.1))
  cut_run a b i j status.Memory first told plays =
      let some : (watches : List (List Look)) × AreWatches run.worlds s.watch s.looks watches = some_notes first in
      (some.0, some.1, plays)
  cut_run a b i j status.ReadFault first told plays = absurd plays
  cut_run a b i j status.Done first told plays = absurd (true≢false told)
  cut_run a b i j status.Usage first told plays = absurd plays
  cut_run a b i j (status.Script r) first told plays = absurd plays
  cut_run a b i j (status.Units r) first told plays = absurd plays
  cut_run a b i j (status.Battle t f) first told plays = absurd (true≢false told)

  module _ (a b c : Option (List ℕ)) (i j k : ℕ) where
    plays_lines : (lines : List ℕ) (end : Status) → is_told end ≡ true → Plays a b i j text last end → Appends b c lines → PlaysWatched a c i k text lines last end
    plays_lines lines status.WriteFault told plays wrote = absurd (false≢true told)
    plays_lines lines status.Memory told plays wrote = absurd (false≢true told)
    plays_lines lines status.ReadFault told plays wrote = absurd plays
    plays_lines lines status.Done told plays wrote = (Appends-trans a b c text lines plays.0 wrote, plays.1)
    plays_lines lines status.Usage told plays wrote = absurd plays
    plays_lines lines (status.Script r) told plays wrote = absurd plays
    plays_lines lines (status.Units r) told plays wrote = absurd plays
    plays_lines lines (status.Battle t faults.Memory) told plays wrote = absurd plays
    plays_lines lines (status.Battle t (faults.Items limit)) told plays wrote = (Appends-trans a b c text lines plays.0 wrote, plays.1)
    plays_lines lines (status.Battle t (faults.Script key f)) told plays wrote = (Appends-trans a b c text lines plays.0 wrote, plays.1)
    plays_lines lines (status.Battle t (faults.Cell key attr)) told plays wrote = (Appends-trans a b c text lines plays.0 wrote, plays.1)
    plays_lines lines (status.Battle t (faults.Post key f)) told plays wrote = (Appends-trans a b c text lines plays.0 wrote, plays.1)
    plays_lines lines (status.Battle t (faults.KeysSpent key children)) told plays wrote = (Appends-trans a b c text lines plays.0 wrote, plays.1)
    plays_lines lines (status.Battle t (faults.UnitsFull units)) told plays wrote = (Appends-trans a b c text lines plays.0 wrote, plays.1)

    -- where a run is told, its text was written
    told_text : (end : Status) → is_told end ≡ true → Plays a b i j text last end → Appends a b text
    told_text status.WriteFault told plays = absurd (false≢true told)
    told_text status.Memory told plays = absurd (false≢true told)
    told_text status.ReadFault told plays = absurd plays
    told_text status.Done told plays = plays.0
    told_text status.Usage told plays = absurd plays
    told_text (status.Script r) told plays = absurd plays
    told_text (status.Units r) told plays = absurd plays
    told_text (status.Battle t faults.Memory) told plays = absurd plays
    told_text (status.Battle t (faults.Items limit)) told plays = plays.0
    told_text (status.Battle t (faults.Script key f)) told plays = plays.0
    told_text (status.Battle t (faults.Cell key attr)) told plays = plays.0
    told_text (status.Battle t (faults.Post key f)) told plays = plays.0
    told_text (status.Battle t (faults.KeysSpent key children)) told plays = plays.0
    told_text (status.Battle t (faults.UnitsFull units)) told plays = plays.0

    module _ (all : List World) (count : ℕ) (end : Status) (same : all ≡ run.worlds) (full : count ≡ s.watch) (told : is_told end ≡ true)
        (plays : Plays a b i j text last end) where
      of_run : {T E : Type 0} (r : Result T E) → WritesWatches all count s.looks b c j k r → WritesWatches run.worlds s.watch s.looks b c j k r
      of_run r lines = subst (λ n. WritesWatches run.worlds n s.looks b c j k r) full (subst (λ xs. WritesWatches xs count s.looks b c j k r) same lines)

      behind : {T E : Type 0} (r : Result T E) → i ≤ j → WritesWatches run.worlds s.watch s.looks b c j k r
          → MatchResult r (λ _. PlaysWorlds a c i k s script plan table end) (λ _. PlaysWorlds a c i k s script plan table status.WriteFault)
      behind (Ok x) later (watches, are, wrote) = (watches, are, plays_lines (watch_text 0 watches) end told plays wrote.whole)
      behind (Err e) later (watches, are, wrote) =
          (watches, are, (rose_later i j k later wrote.cut.0, prefix_after a b c text (watch_text 0 watches) (told_text end told plays) wrote.cut.1))

      -- the lines were written whole, or a write of them failed
      pub with_lines : {T E : Type 0} (r : Result T E) → i ≤ j → WritesWatches all count s.looks b c j k r
          → MatchResult r (λ _. PlaysWorlds a c i k s script plan table end) (λ _. PlaysWorlds a c i k s script plan table status.WriteFault)
      with_lines r later lines = behind r later (of_run r lines)
