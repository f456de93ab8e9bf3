-- What is told of two lists of items is told of both together.
use Rattle.std.proofs.Common.{◌≡◌, Bool, true, false, ◌&&◌, List, [], ◌∷◌, ◌++◌, sym, refl, ap, ◌∙◌}
use Rattle.std.specs.Prelude.{Some}
use Rattle.std.specs.List.{list_all}
use Rattle.sgl_values.specs.Least.{least_of, lesser_of}
use Rattle.sgl_values.specs.ItemOrder.{item_fault_cmp}
use Rattle.sgl_values.specs.declared.item.Item.{Item}
use Rattle.sgl_values.specs.declared.item.Item.TheVariants.{Effect, Faulty}
use Rattle.sgl_values.specs.declared.item.ItemFault.{ItemFault}
use Rattle.sgl_values.proofs.LeastLaws.{fault_assoc}
use Rattle.sgl_typed.specs.Tick.{item_faults}
use Rattle.task_scratch.specs.Job.{item_fits}

pub item_faults-append : (xs ys : List Item) → item_faults (xs ++ ys) ≡ item_faults xs ++ item_faults ys
item_faults-append [] ys = refl
item_faults-append (Effect row attr amount ∷ xs) ys = item_faults-append xs ys
item_faults-append (Faulty fault ∷ xs) ys = ap (λ (l : List ItemFault). fault ∷ l) (item_faults-append xs ys)

least_of-append : (xs ys : List ItemFault) → least_of item_fault_cmp (xs ++ ys) ≡ lesser_of item_fault_cmp (least_of item_fault_cmp xs) (least_of item_fault_cmp ys)
least_of-append [] ys = refl
least_of-append (x ∷ xs) ys =
    ap (lesser_of item_fault_cmp (Some x)) (least_of-append xs ys) ∙ sym (fault_assoc (Some x) (least_of item_fault_cmp xs) (least_of item_fault_cmp ys))

pub least-append : (xs ys : List Item) → least_of item_fault_cmp (item_faults (xs ++ ys)) ≡ lesser_of item_fault_cmp (least_of item_fault_cmp (item_faults xs)) (least_of item_fault_cmp (item_faults ys))
least-append xs ys = ap (least_of item_fault_cmp) (item_faults-append xs ys) ∙ least_of-append (item_faults xs) (item_faults ys)

pub and_assoc : (a b c : Bool) → ((a && b) && c) ≡ (a && (b && c))
and_assoc true b c = refl
and_assoc false b c = refl

pub fit-append : (xs ys : List Item) → list_all item_fits (xs ++ ys) ≡ (list_all item_fits xs && list_all item_fits ys)
fit-append [] ys = refl
fit-append (x ∷ xs) ys = ap (λ (b : Bool). item_fits x && b) (fit-append xs ys) ∙ sym (and_assoc (item_fits x) (list_all item_fits xs) (list_all item_fits ys))
