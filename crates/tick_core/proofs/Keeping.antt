-- Each event keeps a core fair.
use Rattle.std.proofs.Common.{◌≡◌, ◌≢◌, ℕ, zero, suc, ◌+◌, ◌*◌, ◌<◌, ◌≤◌, ◌==◌, ◌&&◌, not, nat_lt, cond, Bool, true, false, List, [], ◌∷◌, ◌++◌, length, get_or, set, map, sym, refl, ap, ◌∙◌, subst, ⊎_elim, true≢false, arith}
use Rattle.std.specs.Prelude.{Option, Some, None}
use Rattle.std.proofs.Math.ListN.{length-set}
use Rattle.std.proofs.lemmas.Bool.{cases_eq}
use Rattle.std.proofs.lemmas.Bool.Decides.{nat_tests}
use Rattle.std.proofs.lemmas.List.{get_or-set_same, get_or-set_other}
use Rattle.std.proofs.lemmas.List.FromFn.{get_or-map-range_with_len, length-map-range_with_len}
use Rattle.sgl_values.specs.declared.fault.Tag.{Tag}
use Rattle.effect_combine.specs.Words.{start_of, merged}
use Rattle.effect_combine.proofs.Merging.{merged_assoc, merged_comm}
use Rattle.tick_core.specs.Core.{Core, Worker, idle, work, lives, work_of, splits, tag_of, start_words, at_start, claimed_by_all, given_by_all}
use Rattle.tick_core.specs.Events.{after, with_task, with_give, joined, rested}
use Rattle.tick_core.specs.Fair.{Fair, gathered}
use Rattle.tick_core.specs.Laws.{StartsAreFair, EventsKeepFair}
use Rattle.tick_core.specs.declared.event.Give.{Give}
use Rattle.tick_core.specs.declared.event.CoreEvent.TheVariants.{Claim, Give as Gives, Split, Join, Turn}
use Rattle.tick_core.proofs.Gathering.{times, times_of, times-append, times-all, gathered_of, gathered-append, gathered-all, gathered-here, gathered-apart, start-gathered, plus_assoc, plus_comm}
use Rattle.tick_core.proofs.Totals.{total-same, total-more, total-moved, total-push, total-nothing}

-- ---- who lives

alive_at : (workers : List (Option Worker)) (number : ℕ) → lives workers number ≡ true → number < length workers
alive_at [] number alive = absurd (true≢false (sym alive))
alive_at (worker ∷ workers) zero alive = omega arith
alive_at (worker ∷ workers) (suc number) alive = let rest = alive_at workers number alive in omega (arith, rest)

pub alive_below : (workers : List (Option Worker)) (number : ℕ) → lives workers number ≡ true → number < length workers
alive_below = alive_at

pub numbers_fit : (core : Core) (number : ℕ) → lives core.workers number ≡ true → number ≤ splits core
numbers_fit core number alive = let below = alive_at core.workers number alive in omega (arith, below)

both : (a b : Bool) → (a && b) ≡ true → (a ≡ true) × (b ≡ true)
both true b all = (refl, all)
both false b all = absurd (true≢false (sym all))

apart_is : (into from : ℕ) → not (into == from) ≡ true → into ≢ from
apart_is into from told = grind (arith, nat_tests)

-- ---- claims and gives after one worker has changed

module _ (workers : List (Option Worker)) (number : ℕ) (alive : lives workers number ≡ true) (now : Worker) where
  abbrev changed : List (Option Worker)
  changed = set workers number (Some now)

  times-same : (task : ℕ) → now.claimed ≡ (work_of workers number).claimed → times task (claimed_by_all changed) ≡ times task (claimed_by_all workers)
  times-same task same =
      times-all task changed
      ∙ total-same (λ a b. a + b) 0 (times_of task) plus_assoc plus_comm workers number None (Some now) (alive_at workers number alive) (ap (times task) same)
      ∙ sym (times-all task workers)

  times-more : (task : ℕ) (more : List ℕ) → now.claimed ≡ (work_of workers number).claimed ++ more
      → times task (claimed_by_all changed) ≡ times task (claimed_by_all workers) + times task more
  times-more task more is =
      times-all task changed
      ∙ total-more (λ a b. a + b) 0 (times_of task) plus_assoc plus_comm workers number None (Some now) (times task more) (alive_at workers number alive)
      (ap (times task) is ∙ times-append task (work_of workers number).claimed more)
      ∙ ap (λ (z : ℕ). z + times task more) (sym (times-all task workers))

  gathered-same : (tag : Tag) (word : ℕ) → now.gives ≡ (work_of workers number).gives → gathered tag word (given_by_all changed) ≡ gathered tag word (given_by_all workers)
  gathered-same tag word same =
      gathered-all tag word changed
      ∙ total-same (merged tag) (start_of tag) (gathered_of tag word) (merged_assoc tag) (merged_comm tag) workers number None (Some now) (alive_at workers number alive)
      (ap (gathered tag word) same)
      ∙ sym (gathered-all tag word workers)

  gathered-more : (tag : Tag) (word : ℕ) (more : List Give) → now.gives ≡ (work_of workers number).gives ++ more
      → gathered tag word (given_by_all changed) ≡ merged tag (gathered tag word (given_by_all workers)) (gathered tag word more)
  gathered-more tag word more is =
      gathered-all tag word changed
      ∙ total-more (merged tag) (start_of tag) (gathered_of tag word) (merged_assoc tag) (merged_comm tag) workers number None (Some now) (gathered tag word more)
      (alive_at workers number alive) (ap (gathered tag word) is ∙ gathered-append tag word (work_of workers number).gives more)
      ∙ ap (λ (z : ℕ). merged tag z (gathered tag word more)) (sym (gathered-all tag word workers))

-- ---- claim

once_more : (task next : ℕ) → cond (nat_lt task next) 1 0 + times task (next ∷ []) ≡ cond (nat_lt task (next + 1)) 1 0
once_more task next = grind (arith, nat_tests)

claim-keeps : (core : Core) (worker : ℕ) → lives core.workers worker ≡ true → Fair core → (b : Bool) → nat_lt core.next core.tasks ≡ b
    → Fair (cond b (record core { next = core.next + 1; workers = set core.workers worker (Some (with_task (work_of core.workers worker) core.next)) }) core)
claim-keeps core worker alive fair false is = fair
claim-keeps core worker alive fair true is =
    let now : Worker = with_task (work_of core.workers worker) core.next in
    record {
      given_out = grind (arith, nat_tests);
      once = λ task. times-more core.workers worker alive now task (core.next ∷ []) refl
          ∙ ap (λ (z : ℕ). z + times task (core.next ∷ [])) (fair.once task) ∙ once_more task core.next;
      words = λ word inside. fair.words word inside ∙ sym (gathered-same core.workers worker alive now (tag_of core.tags word) word refl);
      numbered = numbers_fit record core { next = core.next + 1; workers = set core.workers worker (Some now) };
    }

-- ---- give

module _ (core : Core) (worker word amount : ℕ) (alive : lives core.workers worker ≡ true) (inside : word < length core.words) (fair : Fair core) where
  abbrev give : Give
  give = record { word = word; amount = amount }

  abbrev giving : Worker
  giving = with_give (work_of core.workers worker) give

  abbrev merge : ℕ
  merge = merged (tag_of core.tags word) (get_or core.words word 0) amount

  word_here : get_or (set core.words word merge) word 0 ≡ gathered (tag_of core.tags word) word (given_by_all (set core.workers worker (Some giving)))
  word_here =
      get_or-set_same core.words word merge 0 inside
      ∙ ap (λ (z : ℕ). merged (tag_of core.tags word) z amount) (fair.words word inside)
      ∙ sym (gathered-here (tag_of core.tags word) word amount (given_by_all core.workers))
      ∙ sym (gathered-more core.workers worker alive giving (tag_of core.tags word) word (give ∷ []) refl)

  word_else : (other : ℕ) → other < length core.words → other ≢ word
      → get_or (set core.words word merge) other 0 ≡ gathered (tag_of core.tags other) other (given_by_all (set core.workers worker (Some giving)))
  word_else other within apart =
      get_or-set_other core.words word other merge 0 apart
      ∙ fair.words other within
      ∙ sym (gathered-apart (tag_of core.tags other) other (given_by_all core.workers) give (λ same. apart (sym same)))
      ∙ sym (gathered-more core.workers worker alive giving (tag_of core.tags other) other (give ∷ []) refl)

  give-keeps : Fair (after (Gives worker word amount) core)
  give-keeps = record {
    given_out = fair.given_out;
    once = λ task. times-same core.workers worker alive giving task refl ∙ fair.once task;
    words = λ other within. ⊎_elim
        (λ (same : other ≡ word).
        subst (λ (w : ℕ). get_or (set core.words word merge) w 0 ≡ gathered (tag_of core.tags w) w (given_by_all (set core.workers worker (Some giving)))) (sym same) word_here)
        (word_else other (omega (arith, within, length-set core.words word merge))) (cases_eq other word);
    numbered = numbers_fit (after (Gives worker word amount) core);
  }

-- ---- split

split-keeps : (core : Core) (worker : ℕ) → Fair core → Fair (after (Split worker) core)
split-keeps core worker fair = record {
  given_out = fair.given_out;
  once = λ task. times-all task (core.workers ++ Some idle ∷ []) ∙ total-push (λ a b. a + b) 0 (times_of task) core.workers (Some idle) refl ∙ sym (times-all task core.workers) ∙ fair.once task;
  words = λ word inside. fair.words word inside ∙ sym (gathered-all (tag_of core.tags word) word (core.workers ++ Some idle ∷ [])
      ∙ total-push (merged (tag_of core.tags word)) (start_of (tag_of core.tags word)) (gathered_of (tag_of core.tags word) word) core.workers (Some idle) (start-gathered (tag_of core.tags word) word [])
      ∙ sym (gathered-all (tag_of core.tags word) word core.workers));
  numbered = numbers_fit (after (Split worker) core);
}

-- ---- join

module _ (core : Core) (into from : ℕ) (alive : lives core.workers into ≡ true) (others : lives core.workers from ≡ true) (apart : into ≢ from) where
  abbrev joining : Worker
  joining = joined (work_of core.workers into) (work_of core.workers from)

  abbrev left : List (Option Worker)
  left = set (set core.workers into (Some joining)) from None

  times-joined : (task : ℕ) → times task (claimed_by_all left) ≡ times task (claimed_by_all core.workers)
  times-joined task =
      let sum : times task joining.claimed ≡ times task (work_of core.workers into).claimed + times task (work_of core.workers from).claimed
      = times-append task (work_of core.workers into).claimed (work_of core.workers from).claimed in
      times-all task left
      ∙ total-moved (λ a b. a + b) 0 (times_of task) plus_assoc plus_comm core.workers into from None (Some joining) None (alive_at core.workers into alive) (alive_at core.workers from others) apart
      (omega (arith, sum))
      ∙ sym (times-all task core.workers)

  gathered-joined : (tag : Tag) (word : ℕ) → gathered tag word (given_by_all left) ≡ gathered tag word (given_by_all core.workers)
  gathered-joined tag word =
      gathered-all tag word left
      ∙ total-moved (merged tag) (start_of tag) (gathered_of tag word) (merged_assoc tag) (merged_comm tag) core.workers into from None (Some joining) None
      (alive_at core.workers into alive) (alive_at core.workers from others) apart
      (merged_comm tag (gathered tag word joining.gives) (start_of tag) ∙ start-gathered tag word joining.gives ∙ gathered-append tag word (work_of core.workers into).gives (work_of core.workers from).gives)
      ∙ sym (gathered-all tag word core.workers)

  join-keeps : Fair core → Fair (after (Join into from) core)
  join-keeps fair = record {
    given_out = fair.given_out;
    once = λ task. times-joined task ∙ fair.once task;
    words = λ word inside. fair.words word inside ∙ sym (gathered-joined (tag_of core.tags word) word);
    numbered = numbers_fit (after (Join into from) core);
  }

-- ---- turn, and the start

start_word-at : (rows : ℕ) (tags : List Tag) (word : ℕ) → word < length (start_words rows tags) → get_or (start_words rows tags) word 0 ≡ start_of (tag_of tags word)
start_word-at rows tags word inside =
    let start : ℕ → ℕ = λ w. start_of (tag_of tags w) in
    let count = length-map-range_with_len start 0 (rows * length tags) in
    get_or-map-range_with_len start 0 (rows * length tags) word word 0 (omega (arith, inside, count)) (omega arith)

rested_work : (worker : Option Worker) → work (rested worker) ≡ idle
rested_work None = refl
rested_work (Some worker) = refl

none_below : (task : ℕ) → ◌≡◌ {A = ℕ} 0 (cond (nat_lt task 0) 1 0)
none_below task = let below : nat_lt task 0 ≡ false = grind (arith, nat_tests) in ap (λ (b : Bool). cond b 1 0) (sym below)

turn-keeps : (core : Core) → Fair (after Turn core)
turn-keeps core = record {
  given_out = omega arith;
  once = λ task. times-all task (map rested core.workers)
      ∙ total-nothing (λ a b. a + b) 0 (times_of task) core.workers rested (λ worker. ap (λ (w : Worker). times task w.claimed + 0) (rested_work worker)) ∙ none_below task;
  words = λ word inside. start_word-at core.rows core.tags word inside ∙ sym (gathered-all (tag_of core.tags word) word (map rested core.workers)
      ∙ total-nothing (merged (tag_of core.tags word)) (start_of (tag_of core.tags word)) (gathered_of (tag_of core.tags word) word) core.workers rested
      (λ worker. ap (λ (w : Worker). merged (tag_of core.tags word) (gathered (tag_of core.tags word) word w.gives) (start_of (tag_of core.tags word))) (rested_work worker)
      ∙ start-gathered (tag_of core.tags word) word []));
  numbered = numbers_fit (after Turn core);
}

pub starts-fair : StartsAreFair
starts-fair tasks rows tags = record {
  given_out = omega arith;
  once = none_below;
  words = start_word-at rows tags;
  numbered = numbers_fit (at_start tasks rows tags);
}

-- ---- all of them

below_is : (a b : ℕ) → nat_lt a b ≡ true → a < b
below_is a b told = grind (arith, nat_tests)

pub keeps-fair : EventsKeepFair
keeps-fair (Claim worker) core allowed fair = claim-keeps core worker allowed fair (nat_lt core.next core.tasks) refl
keeps-fair (Gives worker word amount) core allowed fair =
    let parts = both (lives core.workers worker) (nat_lt word (length core.words)) allowed in
    give-keeps core worker word amount parts.0 (below_is word (length core.words) parts.1) fair
keeps-fair (Split worker) core allowed fair = split-keeps core worker fair
keeps-fair (Join into from) core allowed fair =
    let first = both (lives core.workers into) (lives core.workers from && not (into == from)) allowed in
    let second = both (lives core.workers from) (not (into == from)) first.1 in
    join-keeps core into from first.0 second.0 (apart_is into from second.1) fair
keeps-fair Turn core allowed fair = turn-keeps core
