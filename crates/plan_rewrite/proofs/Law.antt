-- The law of rewriting, for every plan of a script.
use Rattle.std.proofs.Common.{◌≡◌, ℕ, true, refl}
use Rattle.std.proofs.lemmas.Bool.Decides.{Decides-eqb}
use Rattle.sgl_typed.specs.WellFormed.{main_body}
use Rattle.sgl_typed.specs.declared.script.TScript.{TScript}
use Rattle.battle_algebra.specs.Fit.{tree_fits}
use Rattle.battle_algebra.specs.OfScript.{formed, IsOf}
use Rattle.plan_rewrite.specs.Rewrite.{moved_call, moved_act}
use Rattle.plan_rewrite.specs.Rewritten.{rewritten_for, Rewrites}
use Rattle.battle_algebra.specs.Same.{same_call}
use Rattle.battle_algebra.specs.Tree.{Tree, Parts}
use Rattle.plan_rewrite.proofs.Kinding.{rewritten-of}
use Rattle.plan_rewrite.proofs.Rewriting.{rewritten-normal, rewritten-each, rewritten-same, rewritten-stands}
use Rattle.battle_algebra.proofs.Sameness.{tells_calls}
use Rattle.plan_rewrite.proofs.Unifying.{Movable}
use Rattle.battle_algebra.specs.ChosenWays.{Ways, way_number, effect_way_number, ways_of, chosen_ways}

movable_ways : (given : Parts) (ways : Ways) → Movable given (chosen_ways ways) ways
movable_ways given ways = record {
  computed = λ rs slot e place h. refl;
  called = λ rs slot call way h. (Decides-eqb (way_number (ways.of_call (moved_call rs call))) (way_number (ways.of_call (moved_call rs call)))).1 refl;
  splits = λ rs cond h. refl;
  acts = λ rs act way h. (Decides-eqb (effect_way_number (ways.of_act (moved_act rs act))) (effect_way_number (ways.of_act (moved_act rs act)))).1 refl;
}

pub rewriting : (script : TScript) (slots : ℕ) (t : Tree) → tree_fits slots t ≡ true → IsOf script t → Rewrites script slots t (rewritten_for script t)
rewriting script slots t fits of = record {
  stands = rewritten-stands script same_call tells_calls (ways_of script) slots t fits;
  normal = record {
    of = rewritten-of script same_call (ways_of script) t of;
    normal = rewritten-normal same_call tells_calls (ways_of script) t;
    ways =
        let given : Parts = formed script.actions (main_body script.schema script.aggs of.kinds) in
        rewritten-each same_call (ways_of script) given (chosen_ways (ways_of script)) (movable_ways given (ways_of script)) t of.fits;
  };
  same = λ normal. rewritten-same same_call (ways_of script) t normal;
}
