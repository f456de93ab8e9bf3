-- The items of tasks, one after the other.
use Rattle.std.proofs.Common.{◌≡◌, ℕ, zero, suc, ◌+◌, ◌*◌, List, [], ◌∷◌, ◌++◌, take, drop, sym, refl, ap, ◌∙◌, arith}
use Rattle.std.proofs.lemmas.List.Concat.{flat_map-append}
use Rattle.sgl_values.specs.World.{Row}
use Rattle.sgl_typed.specs.Items.{items_of, task_rows, unit_items}
use Rattle.sgl_typed.specs.Laws.{ItemsOfJoinedUnits, ItemsOfTasks}

abbrev none : List Row
none = []

take-none : (n : ℕ) → take n none ≡ none
take-none zero = refl
take-none (suc n) = refl

take-both : (n m : ℕ) (rows : List Row) → take (n + m) rows ≡ take n rows ++ take m (drop n rows)
take-both zero m rows = ap (λ (k : ℕ). take k rows) (omega arith)
take-both (suc n) zero [] = take-none (suc n + 0)
take-both (suc n) (suc m) [] = take-none (suc n + suc m)
take-both (suc n) m (row ∷ rows) =
    let e : suc n + m ≡ suc (n + m) = omega arith in
    ap (λ (k : ℕ). take k (row ∷ rows)) e ∙ ap (λ (l : List Row). row ∷ l) (take-both n m rows)

pub items-append : ItemsOfJoinedUnits
items-append script world seed units more = flat_map-append (unit_items script world seed) units more

pub items-of_tasks : ItemsOfTasks
items-of_tasks script world seed task =
    let size : (task + 1) * 64 ≡ task * 64 + 64 = omega arith in
    sym (items-append script world seed (take (task * 64) world.rows) (task_rows world.rows task))
    ∙ ap (items_of script world seed) (sym (take-both (task * 64) 64 world.rows) ∙ ap (λ (k : ℕ). take k world.rows) (sym size))
