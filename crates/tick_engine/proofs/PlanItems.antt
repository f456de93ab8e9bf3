-- The items of a plan, task by task, are those of the tick.
use Rattle.std.proofs.Common.{◌≡◌, ℕ, zero, suc, ◌*◌, List, [], ◌∷◌, ◌++◌, length, map, take, sym, ap, ◌∙◌, subst}
use Rattle.std.specs.Prelude.{flat_map}
use Rattle.std.specs.List.{range_with_len}
use Rattle.std.specs.List.Sorted.{IsPermutation}
use Rattle.std.proofs.lemmas.List.{append-nil}
use Rattle.std.proofs.lemmas.List.Concat.{flat_map-append}
use Rattle.std.proofs.lemmas.List.Sorted.{IsPermutation-append_left, IsPermutation-sym, IsPermutation-trans}
use Rattle.sgl_values.specs.World.{Row, World}
use Rattle.sgl_values.specs.declared.item.Item.{Item}
use Rattle.sgl_typed.specs.Items.{start_with, task_rows, tick_items}
use Rattle.sgl_typed.specs.declared.script.TScript.{TScript}
use Rattle.battle_algebra.specs.Meaning.{rows_items}
use Rattle.battle_algebra.specs.Plans.{GivesItems, tree_in}
use Rattle.battle_algebra.specs.Tree.{Tree}
use Rattle.battle_algebra.specs.declared.normal_plan.NormalPlan.{NormalPlan}
use Rattle.battle_algebra.proofs.Rows.{items_by_frame}
use Rattle.plan_translate.proofs.Whole.{rows_joined}
use Rattle.task_board.specs.Job.{all_items}
use Rattle.plan_executor.specs.PlanJob.{job_of, tasks_for}
use Rattle.tick_engine.proofs.TaskRows.{rows_all, rows_push, tasks_push}

module _ (tree : Tree) (slots : ℕ) (script : TScript) (world : World) (seed : ℕ) where
  abbrev items_for : List Row → List Item
  items_for rows = rows_items tree slots script rows world seed

  abbrev task_items : ℕ → List Item
  task_items task = items_for (task_rows world.rows task)

  upto : (n : ℕ) → IsPermutation (items_for (take (n * 64) world.rows)) (flat_map task_items (range_with_len 0 n))
  upto zero = items_by_frame tree (map (start_with slots script world seed) [])
  upto (suc n) =
      let before : List Item = flat_map task_items (range_with_len 0 n) in
      let all : flat_map task_items (range_with_len 0 (suc n)) ≡ before ++ task_items n =
      ap (flat_map task_items) (tasks_push n) ∙ flat_map-append task_items (range_with_len 0 n) (n ∷ []) ∙ ap (λ (l : List Item). before ++ l) (append-nil (task_items n)) in
      subst (λ (p : List Row × List Item). IsPermutation (items_for p.0) p.1) (λ i. (sym (rows_push world.rows n) i, sym all i))
      (IsPermutation-trans _ _ _ (rows_joined tree slots script (take (n * 64) world.rows) (task_rows world.rows n) world seed)
      (IsPermutation-append_left (task_items n) _ _ (upto n)))

  pub tasks_together : IsPermutation (items_for world.rows) (flat_map task_items (range_with_len 0 (tasks_for (length world.rows))))
  tasks_together =
      subst (λ (rows : List Row). IsPermutation (items_for rows) (flat_map task_items (range_with_len 0 (tasks_for (length world.rows))))) (rows_all world.rows)
      (upto (tasks_for (length world.rows)))

-- the items of all tasks, in some order, are those of the tick
pub are_items : (script : TScript) (plan : NormalPlan) (world : World) (seed limit : ℕ) → GivesItems script plan.plan.nodes plan.plan.slots
    → IsPermutation (tick_items script world seed) (all_items (job_of script plan world seed limit))
are_items script plan world seed limit gives =
    IsPermutation-trans _ _ _ (IsPermutation-sym _ _ (gives world seed)) (tasks_together (tree_in plan.plan.nodes) plan.plan.slots script world seed)
