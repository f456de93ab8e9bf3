-- The frames that reach a node: task by task, and over all rows.
use Rattle.std.proofs.Common.{◌≡◌, ℕ, zero, suc, ◌+◌, ◌*◌, ◌≤◌, cond, Bool, true, false, true≢false, List, [], ◌∷◌, ◌++◌, length, length-append, map, filter, take, sym, refl, ap, ◌∙◌, subst, arith}
use Rattle.std.specs.List.{range_with_len}
use Rattle.std.proofs.lemmas.List.{length-map, map-append}
use Rattle.std.proofs.lemmas.List.Elements.{filter-append}
use Rattle.sgl_values.specs.World.{Row, World}
use Rattle.sgl_typed.specs.Aggregate.{simple_value}
use Rattle.sgl_typed.specs.Items.{start_with, task_rows}
use Rattle.sgl_typed.specs.declared.script.TScript.{TScript}
use Rattle.battle_algebra.specs.Meaning.{Frame, is_other, is_taken, reached, set_slot}
use Rattle.battle_algebra.specs.Plans.{tree_in}
use Rattle.battle_algebra.specs.Tree.{Tree, Nothing, Setting, Parted, Acting, Joined, size}
use Rattle.battle_algebra.specs.declared.normal_plan.NormalPlan.{NormalPlan}
use Rattle.task_scratch.specs.Job.{Job}
use Rattle.task_scratch.specs.Scratch.{reach_at}
use Rattle.task_board.specs.Job.{reach_of}
use Rattle.task_board.specs.Summing.{Reaches}
use Rattle.task_board.specs.declared.summary.Summary.{Summary}
use Rattle.task_board.specs.declared.summary.Summary.TheVariants.{Over, Counted}
use Rattle.task_board.proofs.Running.{reach_push}
use Rattle.plan_executor.specs.PlanJob.{job_of, tasks_for}
use Rattle.tick_engine.specs.Jobs.{AreReached, is_over}
use Rattle.tick_engine.proofs.TaskRows.{rows_all, rows_push, tasks_push}

-- ---- lists of counts

abbrev Adds : List ℕ → List ℕ → List ℕ → Type 0
Adds xs ys zs = (node : ℕ) → reach_at zs node ≡ reach_at xs node + reach_at ys node

adds_append : (xs ys zs xs' ys' zs' : List ℕ) → length ys ≡ length xs → length zs ≡ length xs → Adds xs ys zs → Adds xs' ys' zs' → Adds (xs ++ xs') (ys ++ ys') (zs ++ zs')
adds_append [] [] [] xs' ys' zs' same same' one two node = two node
adds_append [] (y ∷ ys) zs xs' ys' zs' same same' one two node = absurd (omega (arith, same))
adds_append [] [] (z ∷ zs) xs' ys' zs' same same' one two node = absurd (omega (arith, same'))
adds_append (x ∷ xs) [] zs xs' ys' zs' same same' one two node = absurd (omega (arith, same))
adds_append (x ∷ xs) (y ∷ ys) [] xs' ys' zs' same same' one two node = absurd (omega (arith, same'))
adds_append (x ∷ xs) (y ∷ ys) (z ∷ zs) xs' ys' zs' same same' one two zero = one 0
adds_append (x ∷ xs) (y ∷ ys) (z ∷ zs) xs' ys' zs' same same' one two (suc node) =
    adds_append xs ys zs xs' ys' zs' (omega (arith, same)) (omega (arith, same')) (λ k. one (suc k)) two node

adds_cons : (x y z : ℕ) (xs ys zs : List ℕ) → z ≡ x + y → Adds xs ys zs → Adds (x ∷ xs) (y ∷ ys) (z ∷ zs)
adds_cons x y z xs ys zs first rest zero = first
adds_cons x y z xs ys zs first rest (suc node) = rest node

abbrev AtMost : ℕ → List ℕ → Type 0
AtMost most xs = (node : ℕ) → reach_at xs node ≤ most

most_append : (most : ℕ) (xs ys : List ℕ) → AtMost most xs → AtMost most ys → AtMost most (xs ++ ys)
most_append most [] ys one two node = two node
most_append most (x ∷ xs) ys one two zero = one 0
most_append most (x ∷ xs) ys one two (suc node) = most_append most xs ys (λ k. one (suc k)) two node

most_cons : (most x : ℕ) (xs : List ℕ) → x ≤ most → AtMost most xs → AtMost most (x ∷ xs)
most_cons most x xs first rest zero = first
most_cons most x xs first rest (suc node) = rest node

most_more : (most more : ℕ) (xs : List ℕ) → most ≤ more → AtMost most xs → AtMost more xs
most_more most more xs le all node = let here = all node in omega (arith, le, here)

filter_most : (p : Frame → Bool) (fs : List Frame) → length (filter p fs) ≤ length fs
filter_most p [] = omega arith
filter_most p (f ∷ fs) = by (p f) (filter_most p fs)
  where
    by : (b : Bool) → length (filter p fs) ≤ length fs → length (cond b (f ∷ filter p fs) (filter p fs)) ≤ length (f ∷ fs)
    by true rest = omega (arith, rest)
    by false rest = omega (arith, rest)

-- ---- a tree

pub length-reached : (tree : Tree) (fs : List Frame) → length (reached tree fs) ≡ size tree
length-reached Nothing fs = refl
length-reached (Setting slot source below) fs = let rest = length-reached below (map (set_slot slot source) fs) in omega (arith, rest)
length-reached (Parted cond place taken other) fs =
    let to : List Frame = filter (λ f. is_taken (simple_value f cond)) fs in
    let on : List Frame = filter (λ f. is_other (simple_value f cond)) fs in
    let one = length-reached taken to in
    let two = length-reached other on in
    let all = length-append (reached taken to) (reached other on) in
    omega (arith, one, two, all)
length-reached (Acting act way) fs = refl
length-reached (Joined left right) fs =
    let one = length-reached left fs in
    let two = length-reached right fs in
    let all = length-append (reached left fs) (reached right fs) in
    omega (arith, one, two, all)

both_long : (tree : Tree) (fs gs : List Frame) → length (reached tree gs) ≡ length (reached tree fs)
both_long tree fs gs = length-reached tree gs ∙ sym (length-reached tree fs)

none_more : Adds [] [] []
none_more node = refl

-- the frames of both lists reach a node
pub reached_both : (tree : Tree) (fs gs : List Frame) → Adds (reached tree fs) (reached tree gs) (reached tree (fs ++ gs))
reached_both Nothing fs gs = adds_cons (length fs) (length gs) (length (fs ++ gs)) [] [] [] (length-append fs gs) none_more
reached_both (Setting slot source below) fs gs =
    let set : List Frame → List Frame = map (set_slot slot source) in
    adds_cons (length fs) (length gs) (length (fs ++ gs)) (reached below (set fs)) (reached below (set gs)) (reached below (set (fs ++ gs))) (length-append fs gs)
    (subst (λ hs. Adds (reached below (set fs)) (reached below (set gs)) (reached below hs)) (sym (map-append (set_slot slot source) fs gs)) (reached_both below (set fs) (set gs)))
reached_both (Parted cond place taken other) fs gs =
    let to : List Frame → List Frame = filter (λ f. is_taken (simple_value f cond)) in
    let on : List Frame → List Frame = filter (λ f. is_other (simple_value f cond)) in
    let one : Adds (reached taken (to fs)) (reached taken (to gs)) (reached taken (to (fs ++ gs))) =
    subst (λ hs. Adds (reached taken (to fs)) (reached taken (to gs)) (reached taken hs)) (sym (filter-append (λ f. is_taken (simple_value f cond)) fs gs)) (reached_both taken (to fs) (to gs)) in
    let two : Adds (reached other (on fs)) (reached other (on gs)) (reached other (on (fs ++ gs))) =
    subst (λ hs. Adds (reached other (on fs)) (reached other (on gs)) (reached other hs)) (sym (filter-append (λ f. is_other (simple_value f cond)) fs gs)) (reached_both other (on fs) (on gs)) in
    adds_cons (length fs) (length gs) (length (fs ++ gs)) (reached taken (to fs) ++ reached other (on fs)) (reached taken (to gs) ++ reached other (on gs))
    (reached taken (to (fs ++ gs)) ++ reached other (on (fs ++ gs))) (length-append fs gs)
    (adds_append (reached taken (to fs)) (reached taken (to gs)) (reached taken (to (fs ++ gs))) (reached other (on fs)) (reached other (on gs)) (reached other (on (fs ++ gs)))
    (both_long taken (to fs) (to gs)) (both_long taken (to fs) (to (fs ++ gs))) one two)
reached_both (Acting act way) fs gs = adds_cons (length fs) (length gs) (length (fs ++ gs)) [] [] [] (length-append fs gs) none_more
reached_both (Joined left right) fs gs =
    adds_cons (length fs) (length gs) (length (fs ++ gs)) (reached left fs ++ reached right fs) (reached left gs ++ reached right gs) (reached left (fs ++ gs) ++ reached right (fs ++ gs)) (length-append fs gs)
    (adds_append (reached left fs) (reached left gs) (reached left (fs ++ gs)) (reached right fs) (reached right gs) (reached right (fs ++ gs))
    (both_long left fs gs) (both_long left fs (fs ++ gs)) (reached_both left fs gs) (reached_both right fs gs))

none_past : (most : ℕ) → AtMost most []
none_past most node = omega arith

-- no more than there are
pub reached_most : (tree : Tree) (fs : List Frame) → AtMost (length fs) (reached tree fs)
reached_most Nothing fs = most_cons (length fs) (length fs) [] (omega arith) (none_past (length fs))
reached_most (Setting slot source below) fs =
    let long = length-map fs (set_slot slot source) in
    most_cons (length fs) (length fs) (reached below (map (set_slot slot source) fs)) (omega arith)
    (most_more (length (map (set_slot slot source) fs)) (length fs) (reached below (map (set_slot slot source) fs)) (omega (arith, long)) (reached_most below (map (set_slot slot source) fs)))
reached_most (Parted cond place taken other) fs =
    let to : List Frame = filter (λ f. is_taken (simple_value f cond)) fs in
    let on : List Frame = filter (λ f. is_other (simple_value f cond)) fs in
    most_cons (length fs) (length fs) (reached taken to ++ reached other on) (omega arith)
    (most_append (length fs) (reached taken to) (reached other on)
    (most_more (length to) (length fs) (reached taken to) (filter_most (λ f. is_taken (simple_value f cond)) fs) (reached_most taken to))
    (most_more (length on) (length fs) (reached other on) (filter_most (λ f. is_other (simple_value f cond)) fs) (reached_most other on)))
reached_most (Acting act way) fs = most_cons (length fs) (length fs) [] (omega arith) (none_past (length fs))
reached_most (Joined left right) fs =
    most_cons (length fs) (length fs) (reached left fs ++ reached right fs) (omega arith)
    (most_append (length fs) (reached left fs) (reached right fs) (reached_most left fs) (reached_most right fs))

-- ---- a tick

module _ (script : TScript) (plan : NormalPlan) (world : World) (seed limit : ℕ) where
  abbrev tree : Tree
  tree = tree_in plan.plan.nodes

  abbrev start : List Row → List Frame
  start = map (start_with plan.plan.slots script world seed)

  abbrev job : Job
  job = job_of script plan world seed limit

  upto : (node n : ℕ) → reach_of job node (range_with_len 0 n) ≡ reach_at (reached tree (start (take (n * 64) world.rows))) node
  upto node zero = let twice = reached_both tree [] [] node in omega (arith, twice)
  upto node (suc n) =
      let before : List Row = take (n * 64) world.rows in
      let rows : start (take (suc n * 64) world.rows) ≡ start before ++ start (task_rows world.rows n) =
      ap start (rows_push world.rows n) ∙ map-append (start_with plan.plan.slots script world seed) before (task_rows world.rows n) in
      let added : reach_at (reached tree (start (take (suc n * 64) world.rows))) node ≡ reach_at (reached tree (start before)) node + reach_at (reached tree (start (task_rows world.rows n))) node =
      ap (λ (fs : List Frame). reach_at (reached tree fs) node) rows ∙ reached_both tree (start before) (start (task_rows world.rows n)) node in
      ap (λ (tasks : List ℕ). reach_of job node tasks) (tasks_push n)
      ∙ reach_push job node (range_with_len 0 n) n
      ∙ ap (λ (k : ℕ). k + job.reach n node) (upto node n)
      ∙ sym added

  all_tasks : (node : ℕ) → reach_of job node (range_with_len 0 (tasks_for (length world.rows))) ≡ reach_at (reached tree (start world.rows)) node
  all_tasks node = upto node (tasks_for (length world.rows)) ∙ ap (λ (rows : List Row). reach_at (reached tree (start rows)) node) (rows_all world.rows)

  -- where the limit was not passed, the counts are those of all frames
  pub reached_in : (summary : Summary) (reach : List ℕ) → length world.rows ≤ 65536 → is_over summary ≡ false → Reaches job summary reach (range_with_len 0 job.count) → AreReached script plan world seed reach
  reached_in Over reach few within reaches = absurd (true≢false within)
  reached_in (Counted count least) reach few within reaches = λ node.
      let told = reaches node in
      let all = all_tasks node in
      let most = reached_most tree (start world.rows) node in
      let long = length-map world.rows (start_with plan.plan.slots script world seed) in
      omega (arith, told, all, most, long, few)
