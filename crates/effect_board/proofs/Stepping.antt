-- Each step on a board is one event of the tick's machine.
use Rattle.std.proofs.Common.{◌≡◌, ℕ, suc, ◌+◌, ◌<◌, ◌≤◌, nat_lt, min, Bool, true, false, cond, List, [], ◌∷◌, ◌++◌, map, length, get_or, set, sym, refl, ap, ◌∙◌, arith}
use Rattle.std.specs.Prelude.{Option, Some, None, is_some}
use Rattle.std.proofs.lemmas.Bool.Decides.{nat_tests}
use Rattle.atomic_table.proofs.Lists.{at_map, set_again}
use Rattle.sgl_values.specs.declared.fault.Tag.{Tag}
use Rattle.effect_combine.specs.Words.{merged}
use Rattle.tick_core.specs.Core.{Core, Worker, idle, work, work_of, lives, tag_of}
use Rattle.tick_core.specs.Events.{with_task, with_give, joined}
use Rattle.effect_board.specs.declared.view.View.{View}
use Rattle.effect_board.specs.Views.{is_live, taking, missing, giving, splitting, newcomer, joining, spent}
use Rattle.effect_board.specs.Rule.{core_of, worker_of, first_of, after_first}
use Rattle.effect_board.specs.Laws.{HasSeat, ClaimIsEvent, GiveIsEvent, SplitIsEvent, JoinIsEvent}
use Rattle.effect_board.proofs.Lists.{at_is, map_set, map_pushed, first_set, rest_set, first_later, rest_later, get_later}

-- ---- the worker at a seat

abbrev worker_at : View → Worker
worker_at view = record { claimed = view.claimed; gives = view.gives }

pub worker_is : (view : View) → is_live view ≡ true → worker_of view ≡ Some (worker_at view)
worker_is view live = ap (λ (b : Bool). cond b (Some (worker_at view)) None) live

pub no_worker : (view : View) → is_live view ≡ false → worker_of view ≡ None
no_worker view dead = ap (λ (b : Bool). cond b (Some (worker_at view)) None) dead

module _ (views : List View) (place : ℕ) (view : View) (has : HasSeat views place view) where
  pub worker_stands : get_or (map worker_of views) place None ≡ Some (worker_at view)
  worker_stands = at_is (map worker_of views) place (worker_of view) None (at_map worker_of views place view has.0) ∙ worker_is view has.1

  pub work_is : work_of (map worker_of views) place ≡ worker_at view
  work_is = ap work worker_stands

  pub worker_lives : lives (map worker_of views) place ≡ true
  worker_lives = ap (λ (w : Option Worker). is_some w) worker_stands

  -- a view of the same worker changes none
  pub worker_same : (now : View) → worker_of now ≡ worker_of view → map worker_of (set views place now) ≡ map worker_of views
  worker_same now same =
      map_set worker_of views place now ∙ ap (set (map worker_of views) place) same
      ∙ set_again (map worker_of views) place (worker_of view) (at_map worker_of views place view has.0)

  -- one worker changes
  pub worker_now : (now : View) (worker : Worker) → is_live now ≡ true → worker ≡ worker_at now → set (map worker_of views) place (Some worker) ≡ map worker_of (set views place now)
  worker_now now worker live is =
      ap (λ (w : Worker). set (map worker_of views) place (Some w)) is
      ∙ ap (set (map worker_of views) place) (sym (worker_is now live))
      ∙ sym (map_set worker_of views place now)

pub both_live : (view other : View) → is_live view ≡ true → is_live (joining view other) ≡ true
both_live view other live = grind (arith, nat_tests)

-- ---- the events

module _ (tasks rows : ℕ) (tags : List Tag) where
  abbrev state : ℕ → List ℕ → List (Option Worker) → Core
  state next words workers = record { tasks = tasks; next = next; rows = rows; tags = tags; words = words; workers = workers }

  module _ (words : List ℕ) (views : List View) (place : ℕ) (view : View) (has : HasSeat views place view) (some_word : 0 < length words) where
    abbrev found : ℕ
    found = first_of words

    abbrev claimer : List (Option Worker)
    claimer = set (map worker_of views) place (Some (with_task (work_of (map worker_of views) place) (min found tasks)))

    claims : (b : Bool) → nat_lt found tasks ≡ b
        → core_of tasks rows tags (set words 0 (found + 1)) (set views place (cond b (taking view found) (missing view)))
        ≡ cond (nat_lt (min found tasks) tasks) (state (min found tasks + 1) (after_first words) claimer) (core_of tasks rows tags words views)
    claims true is =
        let first : first_of (set words 0 (found + 1)) ≡ found + 1 = first_set words (found + 1) some_word in
        let below : found < tasks = grind (arith, nat_tests) in
        let next : min found tasks ≡ found = omega (arith, below) in
        let left : nat_lt (min found tasks) tasks ≡ true = grind (arith, nat_tests) in
        let after_it : min (first_of (set words 0 (found + 1))) tasks ≡ min found tasks + 1 = omega (arith, first, below) in
        let workers : claimer ≡ map worker_of (set views place (taking view found))
        = worker_now views place view has (taking view found) (with_task (work_of (map worker_of views) place) (min found tasks)) has.1 (λ k. with_task (work_is views place view has k) (next k)) in
        (λ k. state (after_it k) (rest_set words (found + 1) k) (sym workers k))
        ∙ ap (λ (t : Bool). cond t (state (min found tasks + 1) (after_first words) claimer) (core_of tasks rows tags words views)) (sym left)
    claims false is =
        let first : first_of (set words 0 (found + 1)) ≡ found + 1 = first_set words (found + 1) some_word in
        let above : tasks ≤ found = grind (arith, nat_tests) in
        let none : nat_lt (min found tasks) tasks ≡ false = grind (arith, nat_tests) in
        let stays : min (first_of (set words 0 (found + 1))) tasks ≡ min found tasks = omega (arith, first, above) in
        (λ k. state (stays k) (rest_set words (found + 1) k) (worker_same views place view has (missing view) refl k))
        ∙ ap (λ (t : Bool). cond t (state (min found tasks + 1) (after_first words) claimer) (core_of tasks rows tags words views)) (sym none)

pub claim_is_event : ClaimIsEvent
claim_is_event tasks rows tags words views place view kept has =
    let some_word : 0 < length words = let sized = kept.sized in omega (arith, sized) in
    let same : view.tasks ≡ tasks = (kept.sits place view has.0 has.1).same_tasks in
    claims tasks rows tags words views place view has some_word (nat_lt (first_of words) view.tasks) (ap (nat_lt (first_of words)) (sym same))

pub give_is_event : GiveIsEvent
give_is_event tasks rows tags words views place view word amount kept has =
    let now : ℕ = merged (tag_of tags word) (get_or words (suc word) 0) amount in
    let mine : View = giving view record { word = word; amount = amount } in
    let workers : set (map worker_of views) place (Some (with_give (work_of (map worker_of views) place) record { word = word; amount = amount })) ≡ map worker_of (set views place mine)
    = worker_now views place view has mine (with_give (work_of (map worker_of views) place) record { word = word; amount = amount }) has.1
    (ap (λ (w : Worker). with_give w record { word = word; amount = amount }) (work_is views place view has)) in
    let others : after_first (set words (suc word) now) ≡ set (after_first words) word (merged (tag_of tags word) (get_or (after_first words) word 0) amount)
    = rest_later words word now ∙ ap (λ (z : ℕ). set (after_first words) word (merged (tag_of tags word) z amount)) (get_later words word) in
    λ k. state tasks rows tags (min (first_later words word now k) tasks) (others k) (sym workers k)

pub split_is_event : SplitIsEvent
split_is_event tasks rows tags words views place view kept has =
    ap (state tasks rows tags (min (first_of words) tasks) (after_first words))
    (map_pushed worker_of (set views place (splitting view)) (newcomer view)
    ∙ ap (λ (l : List (Option Worker)). l ++ Some idle ∷ []) (worker_same views place view has (splitting view) refl))

pub join_is_event : JoinIsEvent
join_is_event tasks rows tags words views into from view other kept has had =
    let both : View = joining view other in
    let both_work : Worker = joined (work_of (map worker_of views) into) (work_of (map worker_of views) from) in
    let is : both_work ≡ worker_at both = λ k. joined (work_is views into view has k) (work_is views from other had k) in
    ap (state tasks rows tags (min (first_of words) tasks) (after_first words))
    (map_set worker_of (set views into both) from spent
    ∙ ap (λ (l : List (Option Worker)). set l from None) (sym (worker_now views into view has both both_work (both_live view other has.1) is)))
