-- What is written behind a plan.
use Rattle.std.proofs.Common.{◌≡◌, ◌≤◌, ◌++◌, ℕ, List, Option, Err, Ok, append_assoc, subst, sym}
use Rattle.std.proofs.KnownBytes.{Appends-trans}
use Rattle.std.specs.Io.KnownBytes.{Appends}
use Rattle.sgl_outside.proofs.Writes.{prefix_after, prefix_more, rose_later}
use Rattle.sgl_typed.specs.declared.script.TScript.{TScript}
use Rattle.sgl_typed.specs.declared.tick_fault.TickFault.TheVariants as tick
use Rattle.env_table.specs.Table.{Table}
use Rattle.battle_algebra.specs.declared.plan.Node.{Node}
use Rattle.battle_report.specs.declared.watch_line.Look.{Look}
use Rattle.battle_watch.specs.Watches.{AreWatches, watch_text}
use Rattle.battle_words.specs.Words.{Settings}
use Rattle.battle_host.specs.Explain.{Explains, PlaysOf, shown_plan}
use Rattle.battle_host.specs.Play.{IsShown, Plays, PlaysWatched, PlaysWorlds, reach_lines, run_end, run_of, run_text}
use Rattle.battle_host.specs.declared.status.Status.{Status}
use Rattle.battle_host.specs.declared.status.Status.TheVariants as status
use Rattle.battle_host.proofs.WatchedRuns.{some_notes}

module _ (old mid new : Option (List ℕ)) (i j k : ℕ) (shown text : List ℕ) (end : Status) where
  plays_behind : (s : Status) → i ≤ j → Appends old mid shown → Plays mid new j k text end s → Plays old new i k (shown ++ text) end s
  plays_behind status.WriteFault later wrote plays = (rose_later i j k later plays.0, prefix_after old mid new shown text wrote plays.1)
  plays_behind status.Memory later wrote plays = prefix_after old mid new shown text wrote plays
  plays_behind status.Done later wrote plays = (Appends-trans old mid new shown text wrote plays.0, plays.1)
  plays_behind (status.Battle t tick.Memory) later wrote plays = absurd plays
  plays_behind (status.Battle t (tick.Items limit)) later wrote plays = (Appends-trans old mid new shown text wrote plays.0, plays.1)
  plays_behind (status.Battle t (tick.Script key f)) later wrote plays = (Appends-trans old mid new shown text wrote plays.0, plays.1)
  plays_behind (status.Battle t (tick.Cell key attr)) later wrote plays = (Appends-trans old mid new shown text wrote plays.0, plays.1)
  plays_behind (status.Battle t (tick.Post key f)) later wrote plays = (Appends-trans old mid new shown text wrote plays.0, plays.1)
  plays_behind (status.Battle t (tick.KeysSpent last children)) later wrote plays = (Appends-trans old mid new shown text wrote plays.0, plays.1)
  plays_behind (status.Battle t (tick.UnitsFull units)) later wrote plays = (Appends-trans old mid new shown text wrote plays.0, plays.1)
  plays_behind status.Usage later wrote plays = absurd plays
  plays_behind status.ReadFault later wrote plays = absurd plays
  plays_behind (status.Script r) later wrote plays = absurd plays
  plays_behind (status.Units r) later wrote plays = absurd plays

-- the same of a run with lines behind its text
watched_behind : (old mid new : Option (List ℕ)) (i j k : ℕ) (shown text lines : List ℕ) (end s : Status) → i ≤ j → Appends old mid shown → PlaysWatched mid new j k text lines end s
    → PlaysWatched old new i k (shown ++ text) lines end s
watched_behind old mid new i j k shown text lines end s later wrote plays = by_status s plays
  where
    joined : (o : Status) → Plays mid new j k (text ++ lines) end o → Plays old new i k ((shown ++ text) ++ lines) end o
    joined o plays = subst (λ xs. Plays old new i k xs end o) (sym (append_assoc shown text lines)) (plays_behind old mid new i j k shown (text ++ lines) end o later wrote plays)

    by_status : (o : Status) → PlaysWatched mid new j k text lines end o → PlaysWatched old new i k (shown ++ text) lines end o
    by_status status.Memory plays = prefix_after old mid new shown text wrote plays
    by_status status.WriteFault plays = joined status.WriteFault plays
    by_status status.Done plays = joined status.Done plays
    by_status status.Usage plays = joined status.Usage plays
    by_status status.ReadFault plays = joined status.ReadFault plays
    by_status (status.Script r) plays = joined (status.Script r) plays
    by_status (status.Units r) plays = joined (status.Units r) plays
    by_status (status.Battle t f) plays = joined (status.Battle t f) plays

module _ (s : Settings) (script : TScript) (plan : Option (List Node)) (table : Table) (explained : Explains s.explain script plan) where
  abbrev text : List ℕ
  text = run_text s.summary script.schema (reach_lines plan script s.seed) (run_of s script table)

  abbrev last : Status
  last = run_end (run_of s script table)

  -- worlds behind the plan
  pub plays_on : (old mid new : Option (List ℕ)) (i j k : ℕ) (u : Unit {0}) (end : Status) → IsShown old mid i j (shown_plan script plan) (Ok u) → PlaysWorlds mid new j k s script plan table end
      → PlaysOf old new i k s script table end
  plays_on old mid new i j k u end shown (watches, are, plays) =
      (plan, explained, watches, are, watched_behind old mid new i j k (shown_plan script plan) text (watch_text 0 watches) last end shown.0 shown.1 plays)

  -- no world behind it
  pub plays_none : (old new : Option (List ℕ)) (i j : ℕ) (end : Status) → table.world.tick ≡ 0 → IsShown old new i j (shown_plan script plan) (Err end) → PlaysOf old new i j s script table end
  plays_none old new i j status.WriteFault first why =
      let some : (watches : List (List Look)) × AreWatches (run_of s script table).worlds s.watch s.looks watches = some_notes s script plan table first in
      (plan, explained, some.0, some.1, (why.1, prefix_more old new (shown_plan script plan ++ text) (watch_text 0 some.0) (prefix_more old new (shown_plan script plan) text why.2)))
  plays_none old new i j status.Memory first why =
      let some : (watches : List (List Look)) × AreWatches (run_of s script table).worlds s.watch s.looks watches = some_notes s script plan table first in
      (plan, explained, some.0, some.1, prefix_more old new (shown_plan script plan) text why.1)
  plays_none old new i j status.Done first why = absurd why
  plays_none old new i j status.Usage first why = absurd why
  plays_none old new i j status.ReadFault first why = absurd why
  plays_none old new i j (status.Script r) first why = absurd why
  plays_none old new i j (status.Units r) first why = absurd why
  plays_none old new i j (status.Battle t f) first why = absurd why
