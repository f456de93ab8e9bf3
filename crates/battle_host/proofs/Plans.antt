-- The plan that a run shows has its properties.
use Rattle.std.proofs.Common.{◌≡◌, ◌∙◌, ◌≤◌, ℕ, Bool, true, false, List, map, refl, sym, ap, subst}
use Rattle.std.specs.List.Sorted.{IsPermutation}
use Rattle.std.proofs.lemmas.List.Sorted.{IsPermutation-trans}
use Rattle.sgl_typed.specs.Items.{start_with, tick_items}
use Rattle.sgl_typed.specs.declared.script.TScript.{TScript}
use Rattle.battle_algebra.specs.Fit.{is_plan}
use Rattle.battle_algebra.specs.Meaning.{calls_reached, rows_items}
use Rattle.battle_algebra.specs.Plans.{plan_calls, plan_items, tree_in, tree_or}
use Rattle.battle_algebra.specs.Tree.{Tree, numbered}
use Rattle.battle_algebra.specs.declared.plan.Node.{Node}
use Rattle.battle_algebra.proofs.Shapes.{tree_of-numbered}
use Rattle.plan_translate.specs.Translation.{translation, translation_slots}
use Rattle.plan_translate.proofs.Written.{gives_items}
use Rattle.plan_rewrite.specs.Rewritten.{Rewrites}
use Rattle.battle_host.specs.Explain.{Explains, IsPlanOf}
use Rattle.battle_host.specs.Play.{shown_nodes}

-- nodes in preorder are those of their tree
tree_numbered : (t : Tree) → tree_in (numbered t 0) ≡ t
tree_numbered t = ap tree_or (tree_of-numbered t)

module _ (s : TScript) where
  abbrev first : Tree
  first = translation s

  abbrev slots : ℕ
  slots = translation_slots s

  -- a tree that the translation is rewritten to is a plan of the script
  plan_by : (new : List Node) → is_plan new slots ≡ true → Rewrites s slots first (tree_in new) → IsPlanOf s new
  plan_by new shaped r = record {
    plan = shaped;
    normal = r.normal;
    gives = λ world seed.
        IsPermutation-trans (plan_items new slots s world.rows world seed) (rows_items first slots s world.rows world seed) (tick_items s world seed) (r.stands.items world.rows world seed)
        (subst (λ t. IsPermutation (rows_items t slots s world.rows world seed) (tick_items s world seed)) (tree_numbered first) (gives_items s (numbered first 0) slots refl refl world seed));
    few = r.stands.size;
    reached = λ agg world seed.
        subst (λ t. plan_calls agg new slots s world seed ≤ calls_reached agg t (map (start_with slots s world seed) world.rows)) (sym (tree_numbered first)) (r.stands.calls agg world.rows world seed);
    same = r.same;
  }

  -- the same by what the code calls them
  pub plan_of : (nodes new : List Node) (n m : ℕ) → nodes ≡ numbered first 0 → n ≡ slots → m ≡ n → is_plan new m ≡ true → Rewrites s n (tree_in nodes) (tree_in new) → IsPlanOf s new
  plan_of nodes new n m same count kept shaped r =
      plan_by new (subst (λ k. is_plan new k ≡ true) (kept ∙ count) shaped) (subst (λ k. Rewrites s k first (tree_in new)) count (subst (λ t. Rewrites s n t (tree_in new)) (ap tree_in same ∙ tree_numbered first) r))

  -- a plan of the script, where one is asked for
  pub explains_shown : (asked : Bool) (nodes : List Node) → IsPlanOf s nodes → Explains asked s (shown_nodes asked nodes)
  explains_shown false nodes is = refl
  explains_shown true nodes is = (nodes, is, refl)
