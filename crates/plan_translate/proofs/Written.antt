-- The translation of every script is a plan.
use Rattle.std.proofs.Common.{◌≡◌, ℕ, ◌+◌, ◌<◌, true, List, [], ◌++◌, length, refl, ap, ◌∙◌, arith}
use Rattle.std.proofs.lemmas.Bool.{ltb-true, lt-ltb}
use Rattle.sgl_typed.proofs.Forms.{form_of, callees_of}
use Rattle.sgl_typed.specs.Reads.{below}
use Rattle.sgl_typed.specs.WellFormed.{main_body, slots_of_all}
use Rattle.sgl_typed.specs.declared.script.TScript.{TScript}
use Rattle.sgl_typed.specs.declared.script.TAction.{TAction}
use Rattle.sgl_typed.specs.declared.script.TStmt.{TStmt}
use Rattle.battle_algebra.specs.Fit.{is_plan, some_tree_fits, none_set, tree_fits}
use Rattle.plan_translate.specs.Translation.{calls_of_all, translated}
use Rattle.battle_algebra.specs.Tree.{Tree, numbered}
use Rattle.battle_algebra.specs.declared.plan.Node.{Node}
use Rattle.std.proofs.Common.{sym, subst}
use Rattle.std.specs.List.Sorted.{IsPermutation}
use Rattle.sgl_typed.specs.Items.{tick_items}
use Rattle.battle_algebra.specs.Meaning.{rows_items}
use Rattle.battle_algebra.specs.Plans.{tree_in, tree_or, GivesItems}
use Rattle.battle_algebra.specs.Tree.{tree_of}
use Rattle.plan_translate.proofs.Whole.{script_bag}
use Rattle.plan_translate.proofs.Once.{all-wider, OwnSlots, own_slots, sets-list, once-list}
use Rattle.plan_translate.proofs.Planned.{Planned, planned-list}
use Rattle.battle_algebra.specs.OfScript.{IsOf}
use Rattle.plan_translate.proofs.OfScripts.{translated-of}
use Rattle.battle_algebra.proofs.Shapes.{tree_of-numbered, to_fits}

pub translated-fits : (s : TScript) → tree_fits (s.slots + calls_of_all s.main) (translated s.actions s.main s.slots) ≡ true
translated-fits s =
    let slots : ℕ = s.slots + calls_of_all s.main in
    let own : OwnSlots s = own_slots s in
    let planned : Planned (translated s.actions s.main s.slots) none_set =
    planned-list s.main s.actions (callees_of s) (main_body s.schema s.aggs []) s.slots none_set (record { target = refl; effects = refl }) (form_of s).main refl in
    to_fits slots (translated s.actions s.main s.slots)
    (record {
      plain = planned.plain;
      inside =
          sets-list s.main s.actions s.slots (below slots)
          (all-wider (slots_of_all s.main) (below s.slots) (below slots) (λ i lt. let less : i < s.slots = ltb-true _ _ lt in lt-ltb i slots (omega (arith, less))) own.small)
          (λ i ge lt. lt-ltb i slots (omega (arith, lt)));
      once = once-list s.main s.actions s.slots s.slots (omega arith) own.small own.once;
      reads = planned.reads;
    })

-- nodes in preorder of a tree that fits are a plan
pub numbered_is_plan : (t : Tree) (slots : ℕ) → tree_fits slots t ≡ true → is_plan (numbered t 0) slots ≡ true
unfolding is_plan
numbered_is_plan t slots h = ap (some_tree_fits slots) (tree_of-numbered t) ∙ h

-- what was written is a plan
pub translated_is_plan : (s : TScript) (nodes : List Node) (slots : ℕ) → nodes ≡ numbered (translated s.actions s.main s.slots) 0 → slots ≡ s.slots + calls_of_all s.main → is_plan nodes slots ≡ true
translated_is_plan s nodes slots same count = (λ i. is_plan (same i) (count i)) ∙ numbered_is_plan (translated s.actions s.main s.slots) (s.slots + calls_of_all s.main) (translated-fits s)

-- from no nodes on
pub written_nodes : (s : TScript) (old new : List Node) (actions : List TAction) (main : List TStmt) → old ≡ [] → actions ≡ s.actions → main ≡ s.main
    → new ≡ old ++ numbered (translated actions main s.slots) (length old) → new ≡ numbered (translated s.actions s.main s.slots) 0
written_nodes s old new actions main none same same' written = written ∙ (λ i. none i ++ numbered (translated (same i) (same' i) s.slots) (length (none i)))

-- on every world a plan with these nodes gives the items of the script
pub gives_items : (s : TScript) (nodes : List Node) (slots : ℕ) → nodes ≡ numbered (translated s.actions s.main s.slots) 0 → slots ≡ s.slots + calls_of_all s.main → GivesItems s nodes slots
gives_items s nodes slots same count world seed =
    subst (λ t. IsPermutation (rows_items t slots s world.rows world seed) (tick_items s world seed))
    (sym (ap (λ ns. tree_or (tree_of ns)) same ∙ ap tree_or (tree_of-numbered (translated s.actions s.main s.slots))))
    (subst (λ n. IsPermutation (rows_items (translated s.actions s.main s.slots) n s world.rows world seed) (tick_items s world seed)) (sym count) (script_bag s world seed))

-- it is a plan of the script
pub plan_is_of : (s : TScript) (nodes : List Node) → nodes ≡ numbered (translated s.actions s.main s.slots) 0 → IsOf s (tree_in nodes)
plan_is_of s nodes same =
    subst (IsOf s) (sym (ap (λ ns. tree_or (tree_of ns)) same ∙ ap tree_or (tree_of-numbered (translated s.actions s.main s.slots)))) (translated-of s)
