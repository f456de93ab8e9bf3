-- Laws of cells and of the least of a list.
use Rattle.std.specs.Prelude.{◌≡◌, ◌≢◌, ℕ, ℤ, List, [], Some, None}
use Rattle.std.specs.List.{All, Contains}
use Rattle.std.specs.List.Sorted.{IsPermutation}
use Rattle.std.specs.declared.cmp.Ordering.{Ordering}
use Rattle.std.specs.declared.cmp.Ordering.TheVariants.{Less}
use Rattle.sgl_values.specs.declared.fault.Tag.{Tag}
use Rattle.sgl_values.specs.declared.item.Item.{Item}
use Rattle.sgl_values.specs.declared.item.ItemFault.{ItemFault}
use Rattle.sgl_values.specs.Amounts.{Amount, falling_cmp}
use Rattle.sgl_values.specs.Cells.{cell, greatest}
use Rattle.sgl_values.specs.ItemOrder.{item_fault_cmp}
use Rattle.sgl_values.specs.Least.{least_of}

-- a cell is the same for the same items in any order
abbrev pub CellsIgnoreOrder : Type 0
CellsIgnoreOrder = (tag : Tag) (init : ℤ) (row attr : ℕ) (items others : List Item)
    → IsPermutation items others → cell tag init items row attr ≡ cell tag init others row attr

-- one of the list, and none is below it
pub record IsLeast {A : Type 0} (cmp : A → A → Ordering) (xs : List A) (x : A) : Type 0 where
  pub among : Contains xs x
  pub lowest : All (λ y. cmp y x ≢ Less) xs

-- the least fault of items is one of them, and none is below it
abbrev pub LeastItemFaultsAreLeast : Type 0
LeastItemFaultsAreLeast = (faults : List ItemFault) (least : ItemFault) → least_of item_fault_cmp faults ≡ Some least → IsLeast item_fault_cmp faults least

-- there is a least fault where there is one
abbrev pub NoLeastItemFaultIsNone : Type 0
NoLeastItemFaultIsNone = (faults : List ItemFault) → least_of item_fault_cmp faults ≡ None → faults ≡ []

-- the greatest of amounts is one of them, and none is above it
abbrev pub GreatestAmountsAreGreatest : Type 0
GreatestAmountsAreGreatest = (amounts : List Amount) (most : Amount) → greatest amounts ≡ Some most → IsLeast falling_cmp amounts most

-- there is a greatest amount where there is one
abbrev pub NoGreatestAmountIsNone : Type 0
NoGreatestAmountIsNone = (amounts : List Amount) → greatest amounts ≡ None → amounts ≡ []
