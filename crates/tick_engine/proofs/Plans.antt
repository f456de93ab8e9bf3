-- The plan of a battle gives the items of its script.
use Rattle.std.proofs.Common.{◌≡◌, ℕ, List, sym, subst}
use Rattle.std.specs.List.Sorted.{IsPermutation}
use Rattle.std.proofs.lemmas.List.Sorted.{IsPermutation-trans}
use Rattle.sgl_typed.specs.Items.{tick_items}
use Rattle.sgl_typed.specs.declared.script.TScript.{TScript}
use Rattle.battle_algebra.specs.Plans.{GivesItems, plan_items, tree_in}
use Rattle.battle_algebra.specs.Tree.{numbered}
use Rattle.battle_algebra.specs.declared.plan.Node.{Node}
use Rattle.plan_translate.specs.Translation.{translation, translation_slots}
use Rattle.plan_translate.proofs.Written.{gives_items}
use Rattle.plan_rewrite.specs.Rewritten.{Rewrites}

pub gives_rewritten : (s : TScript) (nodes new : List Node) (slots kept : ℕ) → nodes ≡ numbered (translation s) 0 → slots ≡ translation_slots s → kept ≡ slots
    → Rewrites s slots (tree_in nodes) (tree_in new) → GivesItems s new kept
gives_rewritten s nodes new slots kept same count is r = λ world seed.
    subst (λ (n : ℕ). IsPermutation (plan_items new n s world.rows world seed) (tick_items s world seed)) (sym is)
    (IsPermutation-trans _ _ _ (r.stands.items world.rows world seed) (gives_items s nodes slots same count world seed))
