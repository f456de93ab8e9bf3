-- The line of a tick, by the counts of the nodes.
use Rattle.std.proofs.Common.{◌≡◌, ◌∙◌, ℕ, Bool, true, false, List, [], ◌∷◌, length, map, refl, sym, ap}
use Rattle.std.specs.List.{range_with_len}
use Rattle.sgl_values.specs.World.{World}
use Rattle.sgl_typed.specs.declared.script.TScript.{TScript}
use Rattle.battle_algebra.specs.declared.normal_plan.NormalPlan.{NormalPlan}
use Rattle.plan_translate.specs.Translation.{translation_slots}
use Rattle.task_scratch.specs.Scratch.{reach_at}
use Rattle.battle_report.specs.RunLines.{reach_line}
use Rattle.tick_engine.specs.Jobs.{AreReached, frames_at}
use Rattle.battle_host.specs.Play.{frames_counts, reach_lines, shown_nodes, told_reach}

-- two functions that agree give the same list
map_same : (f h : ℕ → ℕ) → ((n : ℕ) → f n ≡ h n) → (xs : List ℕ) → map f xs ≡ map h xs
map_same f h same [] = refl
map_same f h same (x ∷ xs) = ap (λ y. y ∷ map f xs) (same x) ∙ ap (λ ys. h x ∷ ys) (map_same f h same xs)

-- the counts behind a tick are those of its frames
pub reach_told : (asked : Bool) (at : ℕ) (script : TScript) (plan : NormalPlan) (world : World) (seed : ℕ) (reached : List ℕ) → plan.plan.slots ≡ translation_slots script → world.tick ≡ at
    → (asked ≡ true → AreReached script plan world seed reached) → told_reach asked at plan.plan.nodes reached ≡ reach_lines (shown_nodes asked plan.plan.nodes) script seed world
reach_told false at script plan world seed reached slots numbered are = refl
reach_told true at script plan world seed reached slots numbered are =
    let nodes = plan.plan.nodes in
    let counts : map (reach_at reached) (range_with_len 0 (length nodes)) ≡ frames_counts nodes plan.plan.slots script seed world =
    map_same (reach_at reached) (frames_at script plan world seed) (are refl) (range_with_len 0 (length nodes)) in
    ap (λ t. reach_line t (map (reach_at reached) (range_with_len 0 (length nodes)))) (sym numbered)
    ∙ (ap (reach_line world.tick) counts ∙ ap (λ n. reach_line world.tick (frames_counts nodes n script seed world)) slots)
