-- A tick is the same for its items in any order.
use Rattle.std.proofs.Common.{◌≡◌, ℕ, suc, List, [], ◌∷◌, Result, Err, cond, nat_lt, sym, refl, ap, ◌∙◌}
use Rattle.std.specs.Prelude.{Option, Some, None}
use Rattle.std.specs.List.Sorted.{IsPermutation}
use Rattle.std.proofs.lemmas.List.Sorted.{length_permutation}
use Rattle.sgl_values.specs.ItemOrder.{item_fault_cmp}
use Rattle.sgl_values.specs.Least.{least_of, lesser_of}
use Rattle.sgl_values.specs.Totals.{total}
use Rattle.sgl_values.specs.World.{Row, World}
use Rattle.sgl_values.specs.declared.item.Item.{Item}
use Rattle.sgl_values.specs.declared.item.Item.TheVariants.{Effect, Faulty}
use Rattle.sgl_values.specs.declared.item.ItemFault.{ItemFault}
use Rattle.sgl_values.proofs.Combining.{cell-IsPermutation}
use Rattle.sgl_values.proofs.LeastLaws.{fault_assoc, fault_comm}
use Rattle.sgl_values.proofs.Permutations.{total-IsPermutation}
use Rattle.sgl_typed.specs.declared.schema.EffectAttr.{EffectAttr}
use Rattle.sgl_typed.specs.declared.script.TScript.{TScript}
use Rattle.sgl_typed.specs.Tick.{CombinedRow, after_items, after_cells, cells_from, combined_from, item_faults, script_fault, unless}
use Rattle.sgl_typed.specs.declared.tick_fault.TickFault.{TickFault}
use Rattle.sgl_typed.specs.declared.tick_fault.TickFault.TheVariants as ticks

abbrev fault_in : Item → Option ItemFault
fault_in item = least_of item_fault_cmp (item_faults (item ∷ []))

least_total : (items : List Item) → least_of item_fault_cmp (item_faults items) ≡ total (lesser_of item_fault_cmp) None fault_in items
least_total [] = refl
least_total (Effect row attr amount ∷ items) = least_total items
least_total (Faulty fault ∷ items) = ap (lesser_of item_fault_cmp (Some fault)) (least_total items)

abbrev ended : TScript → World → ℕ → ℕ → ℕ → Option ItemFault → List CombinedRow → Result World TickFault
ended script world seed limit count least combined = cond (nat_lt limit count) (Err (ticks.Items limit)) (unless (script_fault least) (after_cells script world seed combined))

module _ (xs ys : List Item) (bag : IsPermutation xs ys) where
  least_same : least_of item_fault_cmp (item_faults ys) ≡ least_of item_fault_cmp (item_faults xs)
  least_same = least_total ys ∙ total-IsPermutation (lesser_of item_fault_cmp) None fault_in fault_assoc fault_comm xs ys bag ∙ sym (least_total xs)

  cells_same : (row number : ℕ) (effects : List EffectAttr) → cells_from ys row number effects ≡ cells_from xs row number effects
  cells_same row number [] = refl
  cells_same row number (effect ∷ effects) =
      λ i. sym (cell-IsPermutation effect.tag effect.init row number xs ys bag) i ∷ cells_same row (suc number) effects i

  combined_same : (script : TScript) (number : ℕ) (rows : List Row) → combined_from script ys number rows ≡ combined_from script xs number rows
  combined_same script number [] = refl
  combined_same script number (row ∷ rows) =
      λ i. record { row = row; cells = cells_same number 0 script.schema.effects i } ∷ combined_same script (suc number) rows i

  pub tick_same : (script : TScript) (world : World) (seed limit : ℕ) → after_items script world seed limit ys ≡ after_items script world seed limit xs
  tick_same script world seed limit =
      ap (λ (p : ℕ × Option ItemFault × List CombinedRow). ended script world seed limit p.0 p.1 p.2)
      (λ i. (length_permutation xs ys bag i, least_same i, combined_same script 0 world.rows i))
