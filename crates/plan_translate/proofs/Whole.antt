-- The translation of a script gives the bag of its items.
use Rattle.std.proofs.Common.{◌≡◌, ℕ, ◌+◌, ◌≤◌, pos, true, List, ◌++◌, map, length, replicate, sym, ◌∙◌, subst, arith, ap}
use Rattle.std.specs.List.{flat_map}
use Rattle.std.specs.List.Sorted.{IsPermutation}
use Rattle.std.proofs.lemmas.List.{get_or-replicate, length-replicate}
use Rattle.std.proofs.lemmas.List.Folds.{flat_map-map}
use Rattle.sgl_values.specs.World.{Row, World}
use Rattle.sgl_values.specs.declared.fault.Val.{Val}
use Rattle.sgl_values.specs.declared.fault.Val.TheVariants.{N}
use Rattle.sgl_typed.specs.Items.{items, start, start_with, tick_items}
use Rattle.sgl_typed.specs.Value.{Context}
use Rattle.sgl_typed.specs.declared.script.TScript.{TScript}
use Rattle.sgl_typed.specs.declared.script.TStmt.{TStmt}
use Rattle.sgl_typed.proofs.Scope.{script_uses}
use Rattle.sgl_typed.specs.Reads.{all_use, below}
use Rattle.battle_algebra.specs.Meaning.{frame_items, tree_items, rows_items}
use Rattle.plan_translate.specs.Translation.{calls_of_all, translated}
use Rattle.battle_algebra.specs.Tree.{Tree}
use Rattle.plan_translate.proofs.Lifting.{Agree}
use Rattle.battle_algebra.proofs.Rows.{items_by_frame, items_of_both}
use Rattle.std.proofs.lemmas.List.{map-append}
use Rattle.plan_translate.proofs.Statements.{block-translated}
use Rattle.sgl_typed.proofs.Equations.{uses-hidden, block-hidden}
use Rattle.sgl_typed.specs.declared.script.TStmt.TheBlock.{hidden-the_row-TStmt-0}
use Rattle.plan_translate.proofs.Equations.{block-tree, block-calls}

-- for one frame
pub list-translated : (b : List TStmt) (next bound : ℕ) (c : Context) (xs ys : List Val) → all_use b (below bound) ≡ true → bound ≤ next → next + calls_of_all b ≤ length ys → length xs ≡ bound → Agree bound xs ys
    → frame_items (translated c.script.actions b next) (record c { slots = ys }) ≡ items b (record c { slots = xs })
list-translated b next bound c xs ys uses le room full a =
    ap (λ t. frame_items t (record c { slots = ys })) (sym (block-tree c.script.actions b next))
    ∙ block-translated (hidden-the_row-TStmt-0 b) next bound c xs ys (uses-hidden b (below bound) ∙ uses) le (omega (arith, room, block-calls b)) full a
    ∙ block-hidden b (record c { slots = xs })

unset : (bound slots : ℕ) → bound ≤ slots → Agree bound (replicate bound (N (pos 0))) (replicate slots (N (pos 0)))
unset bound slots le = record { agree = λ i lt. get_or-replicate bound i _ _ lt ∙ sym (get_or-replicate slots i _ _ (omega arith)) }

-- for all rows of a world
pub same_bag : (s : TScript) (world : World) (seed slots : ℕ) → all_use s.main (below s.slots) ≡ true → s.slots + calls_of_all s.main ≤ slots
    → IsPermutation (rows_items (translated s.actions s.main s.slots) slots s world.rows world seed) (tick_items s world seed)
same_bag s world seed slots uses room =
    let tree : Tree = translated s.actions s.main s.slots in
    let one : (unit : Row) → frame_items tree (start_with slots s world seed unit) ≡ items s.main (start s world seed unit) =
    λ unit. list-translated s.main s.slots s.slots (start s world seed unit) (replicate s.slots (N (pos 0))) (replicate slots (N (pos 0)))
    uses (omega arith) (omega (arith, length-replicate slots (N (pos 0)))) (length-replicate s.slots (N (pos 0))) (unset s.slots slots (omega arith)) in
    subst (IsPermutation (rows_items tree slots s world.rows world seed))
    (flat_map-map (frame_items tree) (start_with slots s world seed) world.rows ∙ (λ i. flat_map (λ unit. one unit i) world.rows))
    (items_by_frame tree (map (start_with slots s world seed) world.rows))

-- for every script, over as many slots as its lets and calls
pub script_bag : (s : TScript) (world : World) (seed : ℕ)
    → IsPermutation (rows_items (translated s.actions s.main s.slots) (s.slots + calls_of_all s.main) s world.rows world seed) (tick_items s world seed)
script_bag s world seed = same_bag s world seed (s.slots + calls_of_all s.main) (script_uses s) (omega arith)

-- the items of two lists of rows are those of both
pub rows_joined : (tree : Tree) (slots : ℕ) (s : TScript) (rows more : List Row) (world : World) (seed : ℕ)
    → IsPermutation (rows_items tree slots s (rows ++ more) world seed) (rows_items tree slots s rows world seed ++ rows_items tree slots s more world seed)
rows_joined tree slots s rows more world seed =
    subst (λ fs. IsPermutation (tree_items tree fs) (rows_items tree slots s rows world seed ++ rows_items tree slots s more world seed))
    (sym (map-append (start_with slots s world seed) rows more))
    (items_of_both tree (map (start_with slots s world seed) rows) (map (start_with slots s world seed) more))
