-- The tree of a plan.
use Rattle.std.proofs.Common.{◌≡◌, ℕ, true, List, refl, ap, sym, ◌∙◌}
use Rattle.std.specs.Prelude.{Option, Some, None}
use Rattle.std.proofs.lemmas.Bool.{false≢true}
use Rattle.battle_algebra.specs.Fit.{is_plan, some_tree_fits, tree_fits}
use Rattle.battle_algebra.specs.Plans.{tree_in, tree_or}
use Rattle.battle_algebra.specs.Tree.{Tree, numbered, tree_of}
use Rattle.battle_algebra.specs.declared.plan.Node.{Node}
use Rattle.battle_algebra.proofs.Reading.{numbered-tree_of}

-- the nodes are those of the tree, which fits
pub record IsTree (nodes : List Node) (slots : ℕ) (tree : Tree) : Type 0 where
  pub are : nodes ≡ numbered tree 0
  pub fits : tree_fits slots tree ≡ true

pub plan_tree : (nodes : List Node) (slots : ℕ) → is_plan nodes slots ≡ true → IsTree nodes slots (tree_in nodes)
unfolding is_plan
plan_tree nodes slots h = step (tree_of nodes) refl h
  where
    step : (o : Option Tree) → tree_of nodes ≡ o → some_tree_fits slots o ≡ true → IsTree nodes slots (tree_in nodes)
    step None is h = absurd (false≢true h)
    step (Some t) is h =
        let own : tree_in nodes ≡ t = ap tree_or is in
        record { are = numbered-tree_of nodes t is ∙ ap (λ u. numbered u 0) (sym own); fits = ap (tree_fits slots) own ∙ h }
