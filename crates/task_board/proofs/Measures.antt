-- The measure of a worker's loop: its greatest task.
use Rattle.std.proofs.Common.{◌≡◌, ℕ, suc, ◌-◌, ◌<◌, ◌≤◌, max, List, [], ◌∷◌, ◌++◌, arith}
use Rattle.std.specs.Prelude.{All}
use Rattle.task_board.specs.Working.{above}

pub above-push : (tasks : List ℕ) (task : ℕ) → above (tasks ++ task ∷ []) ≡ max (above tasks) (suc task)
above-push [] task = omega arith
above-push (first ∷ tasks) task = let rest = above-push tasks task in omega (arith, rest)

pub above_le : (tasks : List ℕ) (n : ℕ) → All (λ task. task < n) tasks → above tasks ≤ n
above_le [] n below = omega arith
above_le (first ∷ tasks) n below =
    let here = below 0 first (omega arith) in
    let rest = above_le tasks n (λ i d inside. below (suc i) d (omega (arith, inside))) in
    omega (arith, here, rest)

pub above_is : (tasks : List ℕ) (task : ℕ) → All (λ other. other < task) tasks → above (tasks ++ task ∷ []) ≡ suc task
above_is tasks task below = let is = above-push tasks task in let least = above_le tasks task below in omega (arith, is, least)

-- the measure falls
pub above_grows : (claimed : List ℕ) (task count : ℕ) → All (λ other. other < task) claimed → task < count → count - above (claimed ++ task ∷ []) < count - above claimed
above_grows claimed task count below less = let is = above_is claimed task below in let least = above_le claimed task below in omega (arith, is, least, less)
