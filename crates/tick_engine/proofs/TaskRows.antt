-- The rows of tasks, one after the other.
use Rattle.std.proofs.Common.{◌≡◌, ℕ, zero, suc, ◌+◌, ◌*◌, List, [], ◌∷◌, ◌++◌, length, take, drop, refl, ap, ◌∙◌, arith}
use Rattle.std.specs.List.{range_with_len}
use Rattle.std.proofs.lemmas.List.{take_all}
use Rattle.sgl_values.specs.World.{Row}
use Rattle.sgl_typed.specs.Items.{task_rows}
use Rattle.plan_executor.specs.PlanJob.{tasks_for}

abbrev none : List Row
none = []

take_nil : (n : ℕ) → take n none ≡ none
take_nil zero = refl
take_nil (suc n) = refl

take_both : (n m : ℕ) (rows : List Row) → take (n + m) rows ≡ take n rows ++ take m (drop n rows)
take_both zero m rows = ap (λ (k : ℕ). take k rows) (omega arith)
take_both (suc n) zero [] = take_nil (suc n + 0)
take_both (suc n) (suc m) [] = take_nil (suc n + suc m)
take_both (suc n) m (row ∷ rows) =
    let e : suc n + m ≡ suc (n + m) = omega arith in
    ap (λ (k : ℕ). take k (row ∷ rows)) e ∙ ap (λ (l : List Row). row ∷ l) (take_both n m rows)

-- the rows of so many tasks and one more
pub rows_push : (rows : List Row) (n : ℕ) → take (suc n * 64) rows ≡ take (n * 64) rows ++ task_rows rows n
rows_push rows n =
    let size : suc n * 64 ≡ n * 64 + 64 = omega arith in
    ap (λ (k : ℕ). take k rows) size ∙ take_both (n * 64) 64 rows

-- the rows of all tasks are all rows
pub rows_all : (rows : List Row) → take (tasks_for (length rows) * 64) rows ≡ rows
rows_all rows = take_all (tasks_for (length rows) * 64) rows (omega arith)

range_push : (a n : ℕ) → range_with_len a (suc n) ≡ range_with_len a n ++ (a + n) ∷ []
range_push a zero = ap (λ (k : ℕ). k ∷ []) (omega arith)
range_push a (suc n) =
    let e : a + 1 + n ≡ a + suc n = omega arith in
    ap (λ (l : List ℕ). a ∷ l) (range_push (a + 1) n) ∙ ap (λ (k : ℕ). a ∷ (range_with_len (a + 1) n ++ k ∷ [])) e

-- the numbers of so many tasks and one more
pub tasks_push : (n : ℕ) → range_with_len 0 (suc n) ≡ range_with_len 0 n ++ n ∷ []
tasks_push n =
    let same : 0 + n ≡ n = omega arith in
    range_push 0 n ∙ ap (λ (k : ℕ). range_with_len 0 n ++ k ∷ []) same
