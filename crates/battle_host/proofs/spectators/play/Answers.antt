use Rattle.std.proofs.Common.{rules, ◌≡◌, ◌∙◌, ◌≤◌, ℕ, List, Option, Result, Ok, Err, true, false, refl, sym, ap, subst}
use Rattle.std.specs.Prelude.{MatchResult}
use Rattle.std.proofs.KnownBytes.{Keeps-refl}
use Rattle.sgl_outside.proofs.Writes.{prefix_nothing}
use Rattle.sgl_values.specs.World.{World}
use Rattle.sgl_typed.specs.declared.script.TScript.{TScript}
use Rattle.sgl_typed.specs.Tick.{worlds}
use Rattle.battle_watch.proofs.Stages.{shown_all, shown_first}
use Rattle.battle_watch.specs.Watches.{WritesWatches}
use Rattle.battle_words.specs.Words.{settings}
use Rattle.battle_words.specs.declared.command_line.RunSettings.{RunSettings}
use Rattle.tick_engine.specs.State.{State}
use Rattle.battle_host.specs.Play.{IsBegun, Played, Plays, PlaysWorlds, is_told, lines_of, reach_lines, run_end, run_of, run_text, shown_nodes, worlds_text}
use Rattle.battle_host.specs.declared.status.Status.{Status}
use Rattle.battle_host.specs.declared.status.Status.TheVariants as status
use Rattle.battle_host.proofs.WatchedRuns.{cut_run, with_lines}
use Rattle.battle_host.proofs.spectators.play.Goals as goal

-- a run by the settings of an engine that are those of the words
same_run : (script : TScript) (world : World) (a b m n ticks : ℕ) → a ≡ b → m ≡ n → worlds script world a m ticks ≡ worlds script world b n ticks
same_run script world a b m n ticks p q = ap (λ x. worlds script world x m ticks) p ∙ ap (λ y. worlds script world b y ticks) q

module _ (run : RunSettings) (b : State) (all : List World) (begun : IsBegun run b) (are : all ≡ (run_of (settings run) b.script b.world).worlds) where
  same : worlds b.script b.world.world b.settings.seed b.settings.items run.ticks ≡ run_of (settings run) b.script b.world
  same = same_run b.script b.world.world b.settings.seed run.seed b.settings.items run.items run.ticks begun.seed begun.items

  -- what was written of the worlds is the text of the run that the words ask for
  abbrev PlaysRun : Option (List ℕ) → Option (List ℕ) → ℕ → ℕ → Status → Type 0
  PlaysRun old new before now end =
      Plays old new before now (run_text run.summary b.script.schema (reach_lines (shown_nodes run.explain b.plan.plan.nodes) b.script run.seed) (run_of (settings run) b.script b.world)) (run_end (run_of (settings run) b.script b.world)) end

  module _ {after : TScript} {on off : Option ℕ} (old new : Option (List ℕ)) (i j : ℕ) (end : Status)
      (played : Played old new i j run.summary (lines_of run.explain b) b.script after all (run_end (worlds b.script b.world.world b.settings.seed b.settings.items run.ticks)) end on off) where
    plays : PlaysRun old new i j end
    plays =
        subst (λ xs. Plays old new i j (worlds_text run.summary b.script.schema (reach_lines (shown_nodes run.explain b.plan.plan.nodes) b.script run.seed) xs) (run_end (run_of (settings run) b.script b.world)) end) are
        (subst (λ r. Plays old new i j (worlds_text run.summary b.script.schema (reach_lines (shown_nodes run.explain b.plan.plan.nodes) b.script run.seed) all) (run_end r) end) same
        (subst (λ n. Plays old new i j (worlds_text run.summary b.script.schema (reach_lines (shown_nodes run.explain b.plan.plan.nodes) b.script n) all) (run_end (worlds b.script b.world.world b.settings.seed b.settings.items run.ticks)) end) begun.seed played.plays))

    -- the run was cut
    untold : is_told end ≡ false → PlaysWorlds old new i j (settings run) b.script (shown_nodes run.explain b.plan.plan.nodes) b.world end
    untold told = cut_run (settings run) b.script (shown_nodes run.explain b.plan.plan.nodes) b.world old new i j end begun.first told plays

    -- the lines of its spectators stand behind it
    lined : {T E : Type 0} (last : Option (List ℕ)) (k : ℕ) (count : ℕ) (r : Result T E) → is_told end ≡ true → count ≡ run.watch → WritesWatches all count run.looks new last j k r
        → MatchResult r (λ _. PlaysWorlds old last i k (settings run) b.script (shown_nodes run.explain b.plan.plan.nodes) b.world end)
        (λ _. PlaysWorlds old last i k (settings run) b.script (shown_nodes run.explain b.plan.plan.nodes) b.world status.WriteFault)
    lined last k count r told full lines =
        with_lines (settings run) b.script (shown_nodes run.explain b.plan.plan.nodes) b.world old new last i j k all count end are full told plays r played.later lines

pub returns-in-Err-clause-played : goal.returns-in-Err-clause-played
returns-in-Err-clause-played g c =
    let run = c.args.context.now.run.now in
    let b = c.args.battle.now in
    let plan = shown_nodes run.explain b.plan.plan.nodes in
    let old = g.O.Sink.written c.args.out.now in
    let count = g.O.Sink.faults c.args.out.now in
    cut_run (settings run) b.script plan b.world old old count count status.Memory c.requires.begun.first refl
    (prefix_nothing old old (run_text run.summary b.script.schema (reach_lines plan b.script run.seed) (run_of (settings run) b.script b.world)) (Keeps-refl old))

pub returns-then-not-is_told-clause-played : goal.returns-then-not-is_told-clause-played
returns-then-not-is_told-clause-played g c =
    untold c.args.context.now.run.now c.args.battle.now g.C.Course.worlds c.requires.begun c.requires.all _ _ _ _ c.play_beside-status.result c.play_beside-status.ensures.played (search rules)

pub play_beside-status-requires-clause-ready : goal.play_beside-status-requires-clause-ready
play_beside-status-requires-clause-ready g c lifetimes outlive =
    let made = c.in-Ok.ensures in
    let begun = c.requires.begun in
    record {
      written_out = begun.written_out;
      few = subst (λ n. n ≤ 8000000) (sym begun.items) begun.within.items;
      limit = begun.within.ticks;
      width = begun.width;
      first = begun.first;
      one = shown_first _ _ made.stage;
      all_are = c.requires.all ∙ ap (λ r. r.worlds) (sym (same c.args.context.now.run.now c.args.battle.now g.C.Course.worlds begun c.requires.all));
    }

pub end_watch-requires-clause-stage : goal.end_watch-requires-clause-stage
end_watch-requires-clause-stage g c lifetimes outlive =
    let told : is_told c.play_beside-status.result ≡ true = search rules in
    let made = c.in-Ok.ensures in
    shown_all _ _ _ _ _ made.stage (c.play_beside-status.ensures.full ∙ made.full) (c.play_beside-status.ensures.played.shown told)

pub returns-in-Ok-end_watch-clause-played : goal.returns-in-Ok-end_watch-clause-played
returns-in-Ok-end_watch-clause-played g c =
    lined c.args.context.now.run.now c.args.battle.now g.C.Course.worlds c.requires.begun c.requires.all _ _ _ _ c.play_beside-status.result c.play_beside-status.ensures.played
    _ _ _ (Ok _) (search rules) (c.play_beside-status.ensures.full ∙ c.in-Ok.ensures.full) c.in-Ok-end_watch.ensures

pub returns-in-Err-end_watch-clause-played : goal.returns-in-Err-end_watch-clause-played
returns-in-Err-end_watch-clause-played g c =
    lined c.args.context.now.run.now c.args.battle.now g.C.Course.worlds c.requires.begun c.requires.all _ _ _ _ c.play_beside-status.result c.play_beside-status.ensures.played
    _ _ _ (Err _) (search rules) (c.play_beside-status.ensures.full ∙ c.in-Ok.ensures.full) c.in-Err-end_watch.ensures
