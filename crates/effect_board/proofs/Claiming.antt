-- How many tasks are claimed, and which.
use Rattle.std.proofs.Common.{◌≡◌, ℕ, zero, suc, ◌+◌, ◌<◌, ◌≤◌, ◌==◌, nat_lt, min, cond, Bool, List, [], ◌∷◌, eq-eqb, map, length, get_or, sym, refl, ap, ◌∙◌, arith}
use Rattle.std.specs.Prelude.{All, None}
use Rattle.std.specs.List.{range_with_len}
use Rattle.std.proofs.lemmas.Bool.Decides.{nat_tests}
use Rattle.std.proofs.lemmas.List.FromFn.{length-range_with_len}
use Rattle.atomic_table.proofs.Lists.{at_map}
use Rattle.sgl_values.specs.Totals.{total}
use Rattle.sgl_values.specs.declared.fault.Tag.{Tag}
use Rattle.tick_core.specs.Core.{Core, work_of, claimed_by_all}
use Rattle.tick_core.specs.Fair.{Fair}
use Rattle.tick_core.proofs.Gathering.{times, times_of, times-all, times-cons, plus_assoc, plus_comm}
use Rattle.tick_core.proofs.Orders.{total-once}
use Rattle.tick_core.proofs.Totals.{total-one}
use Rattle.effect_board.specs.declared.view.View.{View}
use Rattle.effect_board.specs.Rule.{Kept, core_of, worker_of, first_of}
use Rattle.effect_board.specs.Laws.{HasSeat, ClaimsAreCounted, MissesComeLast}
use Rattle.effect_board.proofs.Lists.{at_inside, sum_has, sum_below}
use Rattle.effect_board.proofs.Stepping.{work_is}

length_total : (xs : List ℕ) → length xs ≡ total (λ (a b : ℕ). a + b) 0 (λ (x : ℕ). 1) xs
length_total [] = refl
length_total (x ∷ xs) = let rest = length_total xs in omega (arith, rest)

-- the tasks that are given out are all claimed
pub claimed_count : (core : Core) → Fair core → length (claimed_by_all core.workers) ≡ core.next
claimed_count core fair =
    length_total (claimed_by_all core.workers)
    ∙ total-once (λ (a b : ℕ). a + b) 0 (λ (x : ℕ). 1) plus_assoc plus_comm (claimed_by_all core.workers) core.next fair.once
    ∙ sym (length_total (range_with_len 0 core.next)) ∙ length-range_with_len 0 core.next

pub claims_are_counted : ClaimsAreCounted
claims_are_counted tasks rows tags words views kept = claimed_count (core_of tasks rows tags words views) kept.fair

pub misses_come_last : MissesComeLast
misses_come_last tasks rows tags words views place view kept at missed =
    let all = claims_are_counted tasks rows tags words views kept in
    let counted = kept.counted in
    let mine = sum_has (λ v. v.misses) views place view at in
    omega (arith, all, counted, mine, missed)

-- ---- tasks of one seat

times_at : (xs : List ℕ) (i d : ℕ) → i < length xs → 0 < times (get_or xs i d) xs
times_at [] i d inside = absurd (omega (arith, inside))
times_at (x ∷ xs) zero d inside =
    let all = times-cons x x xs in
    let here : ◌≡◌ {A = ℕ} (cond (x == x) 1 0) 1 = ap (λ (b : Bool). cond b 1 0) (eq-eqb x x refl) in
    omega (arith, all, here)
times_at (x ∷ xs) (suc i) d inside =
    let all = times-cons (get_or xs i d) x xs in
    let rest = times_at xs i d (omega (arith, inside)) in
    omega (arith, all, rest)

below_once : (x next found count : ℕ) → count ≡ cond (nat_lt x next) 1 0 → 0 < count → next ≤ found → x < found
below_once x next found count once there low = grind (arith, nat_tests)

-- each is below the word of the claims
pub claimed_below : (tasks rows : ℕ) (tags : List Tag) (words : List ℕ) (views : List View) (place : ℕ) (view : View)
    → Kept tasks rows tags words views → HasSeat views place view → All (λ task. task < first_of words) view.claimed
claimed_below tasks rows tags words views place view kept has i d inside =
    let workers = map worker_of views in
    let task : ℕ = get_or view.claimed i d in
    let some = times_at view.claimed i d inside in
    let mine : times task (work_of workers place).claimed ≡ times task view.claimed = ap (λ w. times task w.claimed) (work_is views place view has) in
    let there = at_inside workers place (worker_of view) (at_map worker_of views place view has.0) in
    let part = total-one (λ (a b : ℕ). a + b) 0 (times_of task) plus_assoc plus_comm workers place None there in
    let all = times-all task workers in
    let whole = part.1 in
    let more : 0 < times task (claimed_by_all workers) = omega (arith, some, mine, all, whole) in
    below_once task (min (first_of words) tasks) (first_of words) (times task (claimed_by_all workers)) (kept.fair.once task) more (omega arith)

-- ---- the word of the claims

pub room_left : (tasks rows : ℕ) (tags : List Tag) (words : List ℕ) (views : List View) → Kept tasks rows tags words views → first_of words + 1 < 18446744073709551616
room_left tasks rows tags words views kept =
    let all = claims_are_counted tasks rows tags words views kept in
    let misses = sum_below (λ v. v.misses) (λ v. v.seats) views kept.misses in
    let counted = kept.counted in
    let seats = kept.seats in
    let few = kept.few in
    let small = kept.small in
    omega (arith, all, misses, counted, seats, few, small)
