-- A worker behind the task that it claimed.
use Rattle.std.proofs.Common.{◌≡◌, ℕ, zero, suc, ◌+◌, ◌<◌, ◌≤◌, nat_lt, cond, Bool, true, false, List, [], ◌∷◌, ◌++◌, length, length-append, sym, refl, ap, ◌∙◌, subst, arith}
use Rattle.std.specs.Prelude.{Option}
use Rattle.std.proofs.lemmas.Bool.Decides.{nat_tests}
use Rattle.sgl_values.specs.Least.{lesser_of}
use Rattle.sgl_values.specs.ItemOrder.{item_fault_cmp}
use Rattle.sgl_values.specs.declared.item.Item.{Item}
use Rattle.sgl_values.specs.declared.item.ItemFault.{ItemFault}
use Rattle.tick_core.specs.declared.event.Give.{Give}
use Rattle.effect_board.specs.declared.view.View.{View}
use Rattle.effect_board.specs.declared.handles.Seat.{Seat}
use Rattle.effect_board.specs.declared.handles.EffectBoard.{EffectBoard}
use Rattle.effect_board.specs.Views.{giving_all}
use Rattle.effect_board.specs.Handles.{view_of, IsSeatOf}
use Rattle.task_board.specs.declared.worker.Worker.{Worker}
use Rattle.task_scratch.specs.declared.scratch.Scratch.{Scratch}
use Rattle.task_scratch.specs.declared.task_done.TaskDone.{TaskDone}
use Rattle.task_board.specs.declared.summary.Summary.{Summary}
use Rattle.task_board.specs.declared.summary.Summary.TheVariants.{Over, Counted}
use Rattle.task_scratch.specs.Job.{Job, capped}
use Rattle.task_scratch.specs.Scratch.{reach_at}
use Rattle.task_board.specs.Job.{items_of, reach_of}
use Rattle.task_scratch.specs.Ran.{Ran, RanWhole}
use Rattle.task_board.specs.Summing.{Reaches, Tells, Whole, both_of, told_of}
use Rattle.task_board.specs.Working.{HasClaimed, IsWorking, Agrees, above}
use Rattle.task_board.proofs.Joining.{tells_both, items_of-push}
use Rattle.task_board.proofs.Measures.{above-push}

pub reach_push : (job : Job) (node : ℕ) (tasks : List ℕ) (task : ℕ) → reach_of job node (tasks ++ task ∷ []) ≡ reach_of job node tasks + job.reach task node
reach_push job node [] task = omega arith
reach_push job node (first ∷ tasks) task = let rest = reach_push job node tasks task in omega (arith, rest)

reach_append : (job : Job) (node : ℕ) (tasks more : List ℕ) → reach_of job node (tasks ++ more) ≡ reach_of job node tasks + reach_of job node more
reach_append job node [] more = omega arith
reach_append job node (first ∷ tasks) more = let rest = reach_append job node tasks more in omega (arith, rest)

pub past_end : (xs : List ℕ) (node : ℕ) → length xs ≤ node → reach_at xs node ≡ 0
past_end [] node past = refl
past_end (x ∷ xs) zero past = absurd (omega (arith, past))
past_end (x ∷ xs) (suc node) past = past_end xs node (omega (arith, past))

-- the counts of two workers
pub reaches_both : (job : Job) (one two : Summary) (a b sum : List ℕ) (xs ys : List ℕ) → length a ≡ length b → length sum ≡ length a
    → ((node : ℕ) → node < length a → reach_at sum node ≡ capped (reach_at a node + reach_at b node))
    → Reaches job one a xs → Reaches job two b ys → Reaches job (both_of job.limit one two) sum (xs ++ ys)
reaches_both job Over two a b sum xs ys same sized added first second = tt
reaches_both job (Counted m least) Over a b sum xs ys same sized added first second = tt
reaches_both job (Counted m least) (Counted n other) a b sum xs ys same sized added first second = by (nat_lt job.limit (m + n))
  where
    inside : (node : ℕ) (t : Bool) → nat_lt node (length a) ≡ t → reach_at sum node ≡ capped (reach_at a node + reach_at b node)
    inside node true is = added node (grind (arith, nat_tests, is))
    inside node false is =
        let over : length a ≤ node = grind (arith, nat_tests, is) in
        let x = past_end a node over in
        let y = past_end b node (omega (arith, over, same)) in
        let z = past_end sum node (omega (arith, over, sized)) in
        omega (arith, x, y, z)

    by : (t : Bool) → Reaches job (cond t Over (Counted (m + n) (lesser_of item_fault_cmp least other))) sum (xs ++ ys)
    by true = tt
    by false = λ node.
        let here = inside node (nat_lt node (length a)) refl in
        let x = first node in
        let y = second node in
        let all = reach_append job node xs ys in
        omega (arith, here, x, y, all)

module _ (job : Job) (fits : Scratch → Type 0) (board : EffectBoard) (task : ℕ) where
  -- it was over before, and did not run it
  pub over_works : (worker : Worker) → HasClaimed job fits board task worker → worker.summary ≡ Over → IsWorking job fits board worker
  over_works worker claims over =
      let view : View = view_of worker.seat in
      let past : job.limit < length (items_of job claims.earlier) = subst (λ (s : Summary). Tells job s view.gives (items_of job claims.earlier)) over claims.tells in
      let all = ap length (ap (items_of job) claims.claimed ∙ items_of-push job claims.earlier task) in
      let both = length-append (items_of job claims.earlier) (job.items task) in
      let more : job.limit < length (items_of job view.claimed) = omega (arith, past, all, both) in
      let runs = claims.runs in
      let greatest = ap above claims.claimed ∙ above-push claims.earlier task in
      record {
        work = claims.work;
        runs = omega (arith, runs, greatest);
        tells = subst (λ (s : Summary). Tells job s view.gives (items_of job view.claimed)) (sym over) more;
        sized = claims.sized;
        reaches = subst (λ (s : Summary). Reaches job s worker.scratch.room.reach.items view.claimed) (sym over) tt;
      }

  module _ (count : ℕ) (least : Option ItemFault) (gives more : List Give) (earlier : List ℕ) (old new : Scratch) (done : TaskDone)
      (whole : Whole job count least gives (items_of job earlier)) (agrees : old.sink.items ≡ count) (reached : Reaches job (Counted count least) old.room.reach.items earlier) where
    pub record Told (summary : Summary) : Type 0 where
      pub tells : Tells job summary (gives ++ more) (items_of job earlier ++ job.items task)
      pub agree : Agrees summary new.sink.items
      pub reaches : Reaches job summary new.room.reach.items (earlier ++ task ∷ [])

    count_both : (t : Bool) → nat_lt job.limit (count + done.items) ≡ t → t ≡ false → new.sink.items ≡ count + done.items
        → ((node : ℕ) → reach_at new.room.reach.items node ≡ capped (reach_at old.room.reach.items node + job.reach task node))
        → Agrees (cond t Over (Counted (count + done.items) (lesser_of item_fault_cmp least done.least))) new.sink.items
        × Reaches job (cond t Over (Counted (count + done.items) (lesser_of item_fault_cmp least done.least))) new.room.reach.items (earlier ++ task ∷ [])
    count_both true is within same reach = (tt, tt)
    count_both false is within same reach = (
      same,
      λ node.
          let here = reach node in let before = reached node in let push = reach_push job node earlier task in omega (arith, here, before, push),
    )

    by_over : (over : Bool) → done.over ≡ over → done.over ≡ nat_lt job.limit (old.sink.items + length (job.items task))
        → (done.over ≡ false → RanWhole job task old done new more) → Told (both_of job.limit (Counted count least) (cond over Over (Counted done.items done.least)))
    by_over true is past ran =
        let number = whole.count_is in
        let both = length-append (items_of job earlier) (job.items task) in
        let far : nat_lt job.limit (old.sink.items + length (job.items task)) ≡ true = sym past ∙ is in
        record {
          tells = grind (arith, nat_tests, far, number, both, agrees);
          agree = tt;
          reaches = tt;
        }
    by_over false is past ran =
        let told = ran is in
        let same = told.count in
        let behind = told.counted in
        let near : nat_lt job.limit (old.sink.items + length (job.items task)) ≡ false = sym past ∙ is in
        let inside : nat_lt job.limit (count + done.items) ≡ false = ap (nat_lt job.limit) (omega (arith, same, agrees)) ∙ near in
        let other : Whole job done.items done.least more (job.items task) = record {
          count_is = told.count;
          within = grind (arith, nat_tests, near, same);
          least_is = told.least;
          fit = told.fit;
          stand = told.stand;
        } in
        let counts = count_both (nat_lt job.limit (count + done.items)) refl inside (omega (arith, same, behind, agrees)) told.reach in
        record {
          tells = tells_both job (Counted count least) (Counted done.items done.least) gives more (items_of job earlier) (job.items task) whole other;
          agree = counts.0;
          reaches = counts.1;
        }

  -- it ran it
  pub ran_works : (old : Worker) (scratch : Scratch) (seat : Seat) (summary : Summary) (done : TaskDone) (count : ℕ) (least : Option ItemFault)
      → HasClaimed job fits board task old → old.summary ≡ Counted count least → IsSeatOf board seat → fits scratch
      → Ran job task old.scratch done scratch (view_of old.seat) (view_of seat)
      → summary ≡ both_of job.limit old.summary (told_of done)
      → IsWorking job fits board record { seat = seat; scratch = scratch; summary = summary }
  ran_works old scratch seat summary done count least claims is of fit ran both =
      let view : View = view_of old.seat in
      let whole : Whole job count least view.gives (items_of job claims.earlier) = subst (λ (s : Summary). Tells job s view.gives (items_of job claims.earlier)) is claims.tells in
      let agrees : old.scratch.sink.items ≡ count = subst (λ (s : Summary). Agrees s old.scratch.sink.items) is claims.work.agrees in
      let reached : Reaches job (Counted count least) old.scratch.room.reach.items claims.earlier = subst (λ (s : Summary). Reaches job s old.scratch.room.reach.items claims.earlier) is claims.reaches in
      let told : Told count least view.gives ran.gives claims.earlier old.scratch scratch done whole agrees reached (both_of job.limit (Counted count least) (told_of done))
      = by_over count least view.gives ran.gives claims.earlier old.scratch scratch done whole agrees reached done.over refl ran.over ran.whole in
      let now : both_of job.limit (Counted count least) (told_of done) ≡ summary = sym (both ∙ ap (λ (s : Summary). both_of job.limit s (told_of done)) is) in
      let new : view_of seat ≡ giving_all view ran.gives = ran.added in
      let same : (view_of seat).claimed ≡ claims.earlier ++ task ∷ [] = ap (λ (v : View). v.claimed) new ∙ claims.claimed in
      let runs = claims.runs in
      let once = ran.runs in
      let greatest = ap above same ∙ above-push claims.earlier task in
      let all : items_of job (view_of seat).claimed ≡ items_of job claims.earlier ++ job.items task = ap (items_of job) same ∙ items_of-push job claims.earlier task in
      record {
        work = record {
          of = of;
          fresh = ap (λ (v : View). v.misses) new ∙ claims.work.fresh;
          one = ap (λ (v : View). v.seats) new ∙ claims.work.one;
          scratch = fit;
          agrees = subst (λ (s : Summary). Agrees s scratch.sink.items) now told.agree;
        };
        runs = omega (arith, runs, greatest, once);
        tells = subst (λ (p : Summary × List Give × List Item). Tells job p.0 p.1 p.2) (λ i. (now i, sym (ap (λ (v : View). v.gives) new) i, sym all i)) told.tells;
        sized = ran.sized ∙ claims.sized;
        reaches = subst (λ (p : Summary × List ℕ). Reaches job p.0 scratch.room.reach.items p.1) (λ i. (now i, sym same i)) told.reaches;
      }
