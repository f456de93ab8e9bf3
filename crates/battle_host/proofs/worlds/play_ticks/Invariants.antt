use Rattle.std.proofs.Common.{◌≡◌, ◌≤◌, ◌+◌, ◌-◌, ◌++◌, List, [], ◌∷◌, length}
use Rattle.std.specs.Io.KnownBytes.{Appends}
use Rattle.sgl_values.specs.World.{World}
use Rattle.sgl_typed.specs.Tick.{worlds}
use Rattle.battle_watch.specs.Stages.{with_shown}
use Rattle.battle_host.specs.Play.{lines_of, run_end, worlds_text}
use Rattle.battle_host.proofs.worlds.play_ticks.Given as goal

abbrev pub invariant-loop-tick : goal.invariant-loop-tick
invariant-loop-tick g l =
    let script = l.fn.battle.script in
    let seed = l.fn.battle.settings.seed in
    let items = l.fn.battle.settings.items in
    record {
      done : List World;
      same : l.battle.script ≡ script;
      plan : l.battle.plan ≡ l.fn.battle.plan;
      set : l.battle.settings ≡ l.fn.battle.settings;
      all : g.C.Course.worlds ≡ done ++ (worlds script l.battle.world.world seed items (l.fn.context.run.now.ticks - l.tick)).worlds;
      counted : length done ≡ l.tick;
      end : run_end (worlds script l.battle.world.world seed items (l.fn.context.run.now.ticks - l.tick)) ≡ run_end (worlds script l.fn.battle.world.world seed items l.fn.context.run.now.ticks);
      wrote : Appends (g.O.Sink.written l.fn.out) (g.O.Sink.written l.out) (worlds_text l.fn.context.run.now.summary script.schema (lines_of l.fn.context.run.now.explain l.fn.battle) (done ++ l.battle.world.world ∷ []));
      later : g.O.Sink.faults l.fn.out ≤ g.O.Sink.faults l.out;
      numbered : l.battle.world.world.tick ≡ l.tick;
      shown : l.stage ≡ with_shown (l.tick + 1) l.fn.stage;
    }
