-- The plan that a run shows, and what was written of it.
use Rattle.std.specs.Prelude.{◌≡◌, ◌≤◌, ◌++◌, ℕ, Bool, true, false, List, [], Option, None, Some}
use Rattle.sgl_values.specs.World.{World}
use Rattle.sgl_typed.specs.declared.script.TScript.{TScript}
use Rattle.battle_algebra.specs.ChosenWays.{IsNormalFor, ways_of}
use Rattle.battle_algebra.specs.Fit.{is_plan}
use Rattle.battle_algebra.specs.Normal.{IsNormal}
use Rattle.battle_algebra.specs.Plans.{GivesItems, plan_calls, tree_in}
use Rattle.battle_algebra.specs.Same.{same_call}
use Rattle.battle_algebra.specs.Tree.{numbered, size}
use Rattle.battle_algebra.specs.declared.plan.Node.{Node}
use Rattle.plan_translate.specs.Translation.{translation, translation_slots}
use Rattle.plan_rewrite.specs.Rewrite.{with_ways}
use Rattle.battle_report.specs.PlanLines.{plan_text}
use Rattle.env_table.specs.Table.{Table}
use Rattle.battle_report.specs.declared.watch_line.Look.{Look}
use Rattle.battle_watch.specs.Watches.{AreWatches, watch_text}
use Rattle.battle_words.specs.Words.{Settings}
use Rattle.battle_host.specs.Play.{PlaysWatched, reach_lines, run_end, run_of, run_text}
use Rattle.battle_host.specs.declared.status.Status.{Status}

-- The nodes are a plan, one of the script in normal form, which on every world gives the items of the script as a bag. It has no
-- more nodes than the translation of the script, and no aggregate is reached by more frames; and it is that translation with
-- its ways where this is in normal form.
pub record IsPlanOf (script : TScript) (nodes : List Node) : Type 0 where
  pub plan : is_plan nodes (translation_slots script) ≡ true
  pub normal : IsNormalFor script (tree_in nodes)
  pub gives : GivesItems script nodes (translation_slots script)
  pub few : size (tree_in nodes) ≤ size (translation script)
  pub reached : (agg : ℕ) (world : World) (seed : ℕ)
      → plan_calls agg nodes (translation_slots script) script world seed ≤ plan_calls agg (numbered (translation script) 0) (translation_slots script) script world seed
  pub same : IsNormal same_call (with_ways (ways_of script) (translation script)) → tree_in nodes ≡ with_ways (ways_of script) (translation script)

-- The plan that a run shows: one of the script where it is asked for, and else none.
abbrev pub Explains : Bool → TScript → Option (List Node) → Type 0
Explains false script plan = plan ≡ None
Explains true script plan = (nodes : List Node) × IsPlanOf script nodes × (plan ≡ Some nodes)

-- what is written of it before world 0
abbrev pub shown_plan : TScript → Option (List Node) → List ℕ
shown_plan script None = []
shown_plan script (Some nodes) = plan_text script nodes

-- A run of these settings of the script and its first world: the plan where it is asked for, then the worlds with the lines of
-- its ticks, and then the lines of what the spectators may have noted of them.
abbrev pub PlaysOf : Option (List ℕ) → Option (List ℕ) → ℕ → ℕ → Settings → TScript → Table → Status → Type 0
PlaysOf old new before now s script table end =
    (plan : Option (List Node)) × Explains s.explain script plan
    × (watches : List (List Look)) × AreWatches (run_of s script table).worlds s.watch s.looks watches
    × PlaysWatched old new before now (shown_plan script plan ++ run_text s.summary script.schema (reach_lines plan script s.seed) (run_of s script table)) (watch_text 0 watches) (run_end (run_of s script table)) end
