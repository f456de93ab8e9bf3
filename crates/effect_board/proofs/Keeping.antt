-- Each step on a board keeps its rule.
use Rattle.std.proofs.Common.{◌≡◌, ◌≢◌, ℕ, zero, suc, ◌+◌, ◌-◌, ◌*◌, ◌%◌, ◌^◌, ◌<◌, ◌≤◌, ◌==◌, ◌&&◌, not, nat_lt, min, cond, Bool, true, false, List, [], ◌∷◌, ◌++◌, map, length, get_or, set, sym, refl, ap, ◌∙◌, subst, ⊎_elim, true≢false, arith}
use Rattle.std.proofs.Math.ListN.{length-set}
use Rattle.std.proofs.lemmas.Bool.Decides.{nat_tests}
use Rattle.std.proofs.lemmas.List.{length_push}
use Rattle.std.proofs.lemmas.List.FromFn.{length-map-range_with_len}
use mathlib.Core.Option.{some, some-injective, some-ne-none}
use lib.ListN.{get_elem?}
use Rattle.atomic_table.specs.Table.{State, Step, keeps, Allows, Splits, Joins}
use Rattle.atomic_table.proofs.Lists.{at_set, set_else}
use Rattle.sgl_values.specs.declared.fault.Tag.{Tag}
use Rattle.effect_combine.specs.Words.{start_of, merged}
use Rattle.tick_core.specs.Core.{Core, lives, tag_of, start_words}
use Rattle.tick_core.specs.Fair.{Fair}
use Rattle.tick_core.specs.declared.event.CoreEvent.TheVariants.{Claim, Give, Split, Join}
use Rattle.tick_core.proofs.Keeping.{keeps-fair, starts-fair}
use Rattle.effect_board.specs.declared.view.View.{View}
use Rattle.effect_board.specs.Views.{is_live, is_done, may_split, first_view, spent, taking, missing, claiming, giving, splitting, newcomer, joining}
use Rattle.effect_board.specs.Rule.{first_of, after_first, worker_of, core_of, sum_of, Sits, Kept, Claims, Gives}
use Rattle.effect_board.specs.Laws.{HasSeat}
use Rattle.effect_board.proofs.Claiming.{claimed_count, claims_are_counted, claimed_below, room_left}
use Rattle.effect_board.proofs.Lists.{at_inside, at_pushed, first_set, first_get, first_later, rest_long, sum_set, sum_pushed}
use Rattle.effect_board.proofs.Stepping.{worker_lives, both_live, claim_is_event, give_is_event, split_is_event, join_is_event}

-- ---- tests

pub live_is : (view : View) → 0 < view.seats → is_live view ≡ true
live_is view some_seat = grind (arith, nat_tests)

pub seats_of : (view : View) → is_live view ≡ true → 0 < view.seats
seats_of view live = grind (arith, nat_tests)

pub no_misses : (view : View) → is_done view ≡ false → view.misses ≡ 0
no_misses view unmissed = grind (arith, nat_tests)

pub both_true : (a b : Bool) → (a && b) ≡ true → (a ≡ true) × (b ≡ true)
both_true true b all = (refl, all)
both_true false b all = absurd (true≢false (sym all))

pub is_zero : (n : ℕ) → (n == 0) ≡ true → n ≡ 0
is_zero n told = grind (arith, nat_tests)

below_is : (a b : ℕ) → nat_lt a b ≡ true → a < b
below_is a b told = grind (arith, nat_tests)

below_told : (a b : ℕ) → a < b → nat_lt a b ≡ true
below_told a b below = grind (arith, nat_tests)

apart_told : (a b : ℕ) → a ≢ b → not (a == b) ≡ true
apart_told a b apart = grind (arith, nat_tests)

all_told : (a b : Bool) → a ≡ true → b ≡ true → (a && b) ≡ true
all_told a b first second = ap (λ (x : Bool). x && b) first ∙ second

-- ---- what holds of each view, after one has changed

abbrev pub AllWait : List View → Type 0
AllWait views = (place : ℕ) (view : View) → get_elem? views place ≡ some view → view.misses ≤ view.seats

abbrev pub AllSit : ℕ → List Tag → ℕ → List View → Type 0
AllSit tasks tags seats views = (place : ℕ) (view : View) → get_elem? views place ≡ some view → is_live view ≡ true → Sits tasks tags seats place view

abbrev pub FirstStays : List View → Type 0
FirstStays views = (view : View) → get_elem? views 0 ≡ some view → is_live view ≡ true

waits_set : (views : List View) (place : ℕ) (now : View) → AllWait views → now.misses ≤ now.seats → AllWait (set views place now)
waits_set views place now all mine i view at = ⊎_elim
    (λ (is : (i ≡ place) × (now ≡ view)). subst (λ (v : View). v.misses ≤ v.seats) is.1 mine)
    (λ (is : (i ≢ place) × (get_elem? views i ≡ some view)). all i view is.1)
    (at_set views place i now view at)

sits_set : (tasks : ℕ) (tags : List Tag) (seats : ℕ) (views : List View) (place : ℕ) (now : View) → AllSit tasks tags seats views
    → (is_live now ≡ true → Sits tasks tags seats place now) → AllSit tasks tags seats (set views place now)
sits_set tasks tags seats views place now all mine i view at live = ⊎_elim
    (λ (is : (i ≡ place) × (now ≡ view)). subst (λ (p : ℕ × View). Sits tasks tags seats p.0 p.1) (λ k. (sym is.0 k, is.1 k)) (mine (ap is_live is.1 ∙ live)))
    (λ (is : (i ≢ place) × (get_elem? views i ≡ some view)). all i view is.1 live)
    (at_set views place i now view at)

stays_set : (views : List View) (place : ℕ) (now : View) → FirstStays views → is_live now ≡ true → FirstStays (set views place now)
stays_set views place now stays live view at = ⊎_elim
    (λ (is : (0 ≡ place) × (now ≡ view)). ap is_live (sym is.1) ∙ live)
    (λ (is : (0 ≢ place) × (get_elem? views 0 ≡ some view)). stays view is.1)
    (at_set views place 0 now view at)

-- a view of the same seat
record Alike (old now : View) : Type 0 where
  pub same_tasks : now.tasks ≡ old.tasks
  pub same_tags : now.tags ≡ old.tags
  pub same_number : now.number ≡ old.number
  pub same_seats : now.seats ≡ old.seats
  pub same_made : now.made ≡ old.made

sits_alike : (tasks : ℕ) (tags : List Tag) (seats place : ℕ) (old now : View) → Alike old now → Sits tasks tags seats place old → Sits tasks tags seats place now
sits_alike tasks tags seats place old now alike sits = record {
  same_tasks = alike.same_tasks ∙ sits.same_tasks;
  same_tags = alike.same_tags ∙ sits.same_tags;
  numbered = alike.same_number ∙ sits.numbered;
  first = λ zero. alike.same_made ∙ sits.first (sym alike.same_number ∙ zero);
  others = λ later. alike.same_made ∙ sits.others (λ zero. later (alike.same_number ∙ zero));
}

pub starts_long : (rows : ℕ) (tags : List Tag) → length (0 ∷ start_words rows tags) ≡ rows * length tags + 1
starts_long rows tags = let long = length-map-range_with_len (λ word. start_of (tag_of tags word)) 0 (rows * length tags) in omega (arith, long)

module _ (tasks rows : ℕ) (tags : List Tag) where
  abbrev pub Keeps : List ℕ → List View → Type 0
  Keeps words views = Kept tasks rows tags words views

  abbrev state : List ℕ → List View → Core
  state words views = core_of tasks rows tags words views

  -- the rule after one seat's view has changed and perhaps one word, where the machine's state is fair again
  kept_one : (words now : List ℕ) (views : List View) (place : ℕ) (old new : View) → Keeps words views → HasSeat views place old → Alike old new → new.misses ≤ new.seats → length now ≡ length words
      → first_of now + old.misses ≡ min (first_of now) tasks + sum_of (λ v. v.misses) views + new.misses → Fair (state now (set views place new)) → Keeps now (set views place new)
  kept_one words now views place old new kept has alike waits long counted fair =
      let many : length (set views place new) ≡ length views = length-set views place new in
      let live : is_live new ≡ true = ap (nat_lt 0) alike.same_seats ∙ has.1 in
      let misses = sum_set (λ v. v.misses) views place old new has.0 in
      let seats = sum_set (λ v. v.seats) views place old new has.0 in
      let claimed = claimed_count (state now (set views place new)) fair in
      let all = kept.seats in
      let few = kept.few in
      let same = alike.same_seats in
      record {
        fair = fair;
        counted = omega (arith, misses, counted, claimed);
        sized = long ∙ kept.sized;
        small = kept.small;
        few = omega (arith, many, few);
        seats = omega (arith, many, seats, all, same);
        misses = waits_set views place new kept.misses waits;
        sits = subst (λ (n : ℕ). AllSit tasks tags n (set views place new)) (sym many)
            (sits_set tasks tags (length views) views place new kept.sits (λ _. sits_alike tasks tags (length views) place old new alike (kept.sits place old has.0 has.1)));
        stays = stays_set views place new kept.stays live;
      }

  some_word : (words : List ℕ) (views : List View) → Keeps words views → 0 < length words
  some_word words views kept = let sized = kept.sized in omega (arith, sized)

  -- ---- a claim

  module _ (words : List ℕ) (views : List View) (place : ℕ) (view : View) (kept : Keeps words views) (has : HasSeat views place view) where
    claims_fair : Fair (state (set words 0 (first_of words + 1)) (set views place (claiming view (first_of words))))
    claims_fair =
        subst Fair (sym (claim_is_event tasks rows tags words views place view kept has))
        (keeps-fair (Claim place) (state words views) (worker_lives views place view has) kept.fair)

    claims_kept : view.misses ≡ 0 → (b : Bool) → nat_lt (first_of words) view.tasks ≡ b
        → Fair (state (set words 0 (first_of words + 1)) (set views place (cond b (taking view (first_of words)) (missing view))))
        → Keeps (set words 0 (first_of words + 1)) (set views place (cond b (taking view (first_of words)) (missing view)))
    claims_kept fresh true is fair =
        let same : view.tasks ≡ tasks = (kept.sits place view has.0 has.1).same_tasks in
        let below : first_of words < view.tasks = below_is (first_of words) view.tasks is in
        let first = first_set words (first_of words + 1) (some_word words views kept) in
        let counted = kept.counted in
        let claimed = claims_are_counted tasks rows tags words views kept in
        kept_one words (set words 0 (first_of words + 1)) views place view (taking view (first_of words)) kept has
        record { same_tasks = refl; same_tags = refl; same_number = refl; same_seats = refl; same_made = refl }
        (kept.misses place view has.0) (length-set words 0 (first_of words + 1)) (omega (arith, first, counted, claimed, below, same)) fair
    claims_kept fresh false is fair =
        let same : view.tasks ≡ tasks = (kept.sits place view has.0 has.1).same_tasks in
        let above : view.tasks ≤ first_of words = grind (arith, nat_tests) in
        let first = first_set words (first_of words + 1) (some_word words views kept) in
        let counted = kept.counted in
        let claimed = claims_are_counted tasks rows tags words views kept in
        let seats = seats_of view has.1 in
        kept_one words (set words 0 (first_of words + 1)) views place view (missing view) kept has
        record { same_tasks = refl; same_tags = refl; same_number = refl; same_seats = refl; same_made = refl }
        (omega (arith, fresh, seats)) (length-set words 0 (first_of words + 1)) (omega (arith, first, counted, claimed, above, same)) fair

  pub claims : (slots place : ℕ) (view : View) (carried : List (ℕ × ℕ)) (step : Step ℕ) → 0 < view.seats → is_done view ≡ false
      → Allows (λ (s : State ℕ View). Kept tasks rows tags s.words s.views) slots place (view, carried) 0 (λ n. (n + 1) % 18446744073709551616) (Claims step (view, carried))
  claims slots place view carried step some_seat unmissed s kept homes at range =
      let has : HasSeat s.views place view = (at, live_is view some_seat) in
      let first : get_or s.words 0 0 ≡ first_of s.words = first_get s.words in
      let room = room_left tasks rows tags s.words s.views kept in
      let more : (get_or s.words 0 0 + 1) % 18446744073709551616 ≡ first_of s.words + 1 = omega (arith, first, room) in (
        claiming view (get_or s.words 0 0),
        keeps,
        tt,
        subst (λ (p : ℕ × ℕ). Kept tasks rows tags (set s.words 0 p.0) (set s.views place (claiming view p.1))) (λ k. (sym more k, sym first k))
            (claims_kept s.words s.views place view kept has (no_misses view unmissed) (nat_lt (first_of s.words) view.tasks) refl (claims_fair s.words s.views place view kept has)),
        (refl, λ i d inside. subst (λ (n : ℕ). get_or view.claimed i d < n) (sym first) (claimed_below tasks rows tags s.words s.views place view kept has i d inside)),
      )

  -- ---- a give

  module _ (words : List ℕ) (views : List View) (place : ℕ) (view : View) (kept : Keeps words views) (has : HasSeat views place view) (word amount : ℕ) (inside : word < rows * length tags) where
    abbrev now : List ℕ
    now = set words (suc word) (merged (tag_of tags word) (get_or words (suc word) 0) amount)

    abbrev giver : View
    giver = giving view record { word = word; amount = amount }

    gives_fair : Fair (state now (set views place giver))
    gives_fair =
        let long : length (after_first words) ≡ rows * length tags = rest_long words (rows * length tags) kept.sized in
        subst Fair (sym (give_is_event tasks rows tags words views place view word amount kept has))
        (keeps-fair (Give place word amount) (state words views)
        (all_told (lives (map worker_of views) place) (nat_lt word (length (after_first words))) (worker_lives views place view has) (below_told word (length (after_first words)) (omega (arith, inside, long))))
        kept.fair)

    gives_kept : Keeps now (set views place giver)
    gives_kept =
        let first = first_later words word (merged (tag_of tags word) (get_or words (suc word) 0) amount) in
        let counted = kept.counted in
        let claimed = claims_are_counted tasks rows tags words views kept in
        kept_one words now views place view giver kept has
        record { same_tasks = refl; same_tags = refl; same_number = refl; same_seats = refl; same_made = refl }
        (kept.misses place view has.0) (length-set words (suc word) (merged (tag_of tags word) (get_or words (suc word) 0) amount)) (omega (arith, first, counted, claimed)) gives_fair

  pub gives : (slots place : ℕ) (view : View) (carried : List (ℕ × ℕ)) (step : Step ℕ) (word amount : ℕ) (tag : Tag) → 0 < view.seats → word < rows * length tags → tag ≡ tag_of tags word
      → step.word ≡ word + 1 → step.first ≡ amount
      → Allows (λ (s : State ℕ View). Kept tasks rows tags s.words s.views) slots place (view, carried) step.word (λ n. merged tag n amount) (Gives step (view, carried))
  gives slots place view carried step word amount tag some_seat inside is there by s kept homes at range =
      let has : HasSeat s.views place view = (at, live_is view some_seat) in
      let before : suc word ≡ step.word = omega (arith, there) in
      let behind : word ≡ step.word - 1 = omega (arith, there) in (
        giving view record { word = step.word - 1; amount = step.first },
        keeps,
        tt,
        subst (λ (p : ℕ × ℕ × ℕ × Tag). Kept tasks rows tags (set s.words p.0 (merged p.3 (get_or s.words p.0 0) amount)) (set s.views place (giving view record { word = p.1; amount = p.2 })))
            (λ k. (before k, behind k, sym by k, sym is k)) (gives_kept s.words s.views place view kept has word amount inside),
        refl,
      )

  -- ---- one more seat

  splits_fair : (words : List ℕ) (views : List View) (place : ℕ) (view : View) → Keeps words views → HasSeat views place view → Fair (state words (set views place (splitting view) ++ newcomer view ∷ []))
  splits_fair words views place view kept has =
      subst Fair (sym (split_is_event tasks rows tags words views place view kept has))
      (keeps-fair (Split place) (state words views) (worker_lives views place view has) kept.fair)

  -- the seats that were there
  splits_sit : (views : List View) (place : ℕ) (view : View) → Sits tasks tags (length views) place view → AllSit tasks tags (length views) views → place ≡ 0 → view.made ≡ length views
      → AllSit tasks tags (length views + 1) (set views place (splitting view))
  splits_sit views place view sits all first made i other at live = ⊎_elim
      (λ (is : (i ≡ place) × (splitting view ≡ other)). subst (λ (p : ℕ × View). Sits tasks tags (length views + 1) p.0 p.1) (λ k. (sym is.0 k, is.1 k))
      record {
        same_tasks = sits.same_tasks;
        same_tags = sits.same_tags;
        numbered = sits.numbered;
        first = λ zero. ap (λ (n : ℕ). n + 1) made;
        others = λ later. absurd (later (sits.numbered ∙ first));
      })
      (λ (is : (i ≢ place) × (get_elem? views i ≡ some other)). let old : Sits tasks tags (length views) i other = all i other is.1 live in
      record {
        same_tasks = old.same_tasks;
        same_tags = old.same_tags;
        numbered = old.numbered;
        first = λ zero. absurd (is.0 (sym old.numbered ∙ zero ∙ sym first));
        others = old.others;
      })
      (at_set views place i (splitting view) other at)

  pub splits : (place : ℕ) (view : View) → 0 < view.seats → may_split view ≡ true → Splits (λ (s : State ℕ View). Kept tasks rows tags s.words s.views) place view (splitting view) (newcomer view)
  splits place view some_seat may s kept at =
      let views : List View = s.views in
      let left : List View = set views place (splitting view) in
      let has : HasSeat views place view = (at, live_is view some_seat) in
      let told = both_true (view.number == 0) (nat_lt view.made 64) may in
      let zero : view.number ≡ 0 = is_zero view.number told.0 in
      let room : view.made < 64 = below_is view.made 64 told.1 in
      let sits : Sits tasks tags (length views) place view = kept.sits place view at has.1 in
      let made : view.made ≡ length views = sits.first zero in
      let first : place ≡ 0 = sym sits.numbered ∙ zero in
      let long : length left ≡ length views = length-set views place (splitting view) in
      let many : length (left ++ newcomer view ∷ []) ≡ length views + 1 = length_push left (newcomer view) ∙ ap (λ (n : ℕ). n + 1) long in
      let some_view = at_inside views place view at in
      let misses = sum_set (λ v. v.misses) views place view (splitting view) at in
      let misses_more = sum_pushed (λ v. v.misses) left (newcomer view) in
      let seats = sum_set (λ v. v.seats) views place view (splitting view) at in
      let seats_more = sum_pushed (λ v. v.seats) left (newcomer view) in
      let fair = splits_fair s.words views place view kept has in
      let claimed = claims_are_counted tasks rows tags s.words views kept in
      let claimed_now = claimed_count (state s.words (left ++ newcomer view ∷ [])) fair in
      let counted = kept.counted in
      let all = kept.seats in
      record {
        fair = fair;
        counted = omega (arith, misses, misses_more, counted, claimed, claimed_now);
        sized = kept.sized;
        small = kept.small;
        few = omega (arith, many, made, room);
        seats = omega (arith, seats, seats_more, all, many);
        misses = λ i other there. ⊎_elim
            (λ (is : get_elem? left i ≡ some other). waits_set views place (splitting view) kept.misses (kept.misses place view at) i other is)
            (λ (is : (i ≡ length left) × (newcomer view ≡ other)). subst (λ (v : View). v.misses ≤ v.seats) is.1 (omega arith))
            (at_pushed left (newcomer view) other i there);
        sits = λ i other there live. ⊎_elim
            (λ (is : get_elem? left i ≡ some other). subst (λ (n : ℕ). Sits tasks tags n i other) (sym many) (splits_sit views place view sits kept.sits first made i other is live))
            (λ (is : (i ≡ length left) × (newcomer view ≡ other)). subst (λ (v : View). Sits tasks tags (length (left ++ newcomer view ∷ [])) i v) is.1
            (let last : i ≡ length left = is.0 in record {
              same_tasks = sits.same_tasks;
              same_tags = sits.same_tags;
              numbered = omega (arith, last, long, made);
              first = λ none. absurd (omega (arith, none, made, some_view));
              others = λ later. refl;
            }))
            (at_pushed left (newcomer view) other i there);
        stays = λ other there. ⊎_elim
            (λ (is : get_elem? left 0 ≡ some other). stays_set views place (splitting view) kept.stays has.1 other is)
            (λ (is : (0 ≡ length left) × (newcomer view ≡ other)). ap is_live (sym is.1))
            (at_pushed left (newcomer view) other 0 there);
      }

  -- ---- a seat that takes over another

  joins_fair : (words : List ℕ) (views : List View) (into from : ℕ) (view other : View) → Keeps words views → HasSeat views into view → HasSeat views from other → into ≢ from
      → Fair (state words (set (set views into (joining view other)) from spent))
  joins_fair words views into from view other kept has had apart =
      let workers = map worker_of views in
      subst Fair (sym (join_is_event tasks rows tags words views into from view other kept has had))
      (keeps-fair (Join into from) (state words views)
      (all_told (lives workers into) (lives workers from && not (into == from)) (worker_lives views into view has)
      (all_told (lives workers from) (not (into == from)) (worker_lives views from other had) (apart_told into from apart)))
      kept.fair)

  pub joins : (into : ℕ) (view : View) (from : ℕ) (other : View) → 0 < view.seats → 0 < other.seats → other.number ≢ 0
      → Joins (λ (s : State ℕ View). Kept tasks rows tags s.words s.views) into view from other (joining view other) spent
  joins into view from other some_seat some_other later s kept at apart there =
      let views : List View = s.views in
      let both : View = joining view other in
      let was : get_elem? views from ≡ some other = sym (set_else views into from both apart) ∙ there in
      let has : HasSeat views into view = (at, live_is view some_seat) in
      let had : HasSeat views from other = (was, live_is other some_other) in
      let many : length (set (set views into both) from spent) ≡ length views = length-set (set views into both) from spent ∙ length-set views into both in
      let misses = sum_set (λ v. v.misses) views into view both at in
      let misses_less = sum_set (λ v. v.misses) (set views into both) from other spent there in
      let seats = sum_set (λ v. v.seats) views into view both at in
      let seats_less = sum_set (λ v. v.seats) (set views into both) from other spent there in
      let fair = joins_fair s.words views into from view other kept has had (λ same. apart (sym same)) in
      let claimed = claims_are_counted tasks rows tags s.words views kept in
      let claimed_now = claimed_count (state s.words (set (set views into both) from spent)) fair in
      let counted = kept.counted in
      let all = kept.seats in
      let few = kept.few in
      let waits = kept.misses into view at in
      let waited = kept.misses from other was in
      let sits : Sits tasks tags (length views) into view = kept.sits into view at has.1 in
      let place : other.number ≡ from = (kept.sits from other was had.1).numbered in
      record {
        fair = fair;
        counted = omega (arith, misses, misses_less, counted, claimed, claimed_now);
        sized = kept.sized;
        small = kept.small;
        few = omega (arith, many, few);
        seats = omega (arith, seats, seats_less, all, many);
        misses = waits_set (set views into both) from spent (waits_set views into both kept.misses (omega (arith, waits, waited))) (omega arith);
        sits = subst (λ (n : ℕ). AllSit tasks tags n (set (set views into both) from spent)) (sym many)
            (sits_set tasks tags (length views) (set views into both) from spent
            (sits_set tasks tags (length views) views into both kept.sits
            (λ _. record { same_tasks = sits.same_tasks; same_tags = sits.same_tags; numbered = sits.numbered; first = sits.first; others = sits.others }))
            (λ live. absurd (true≢false (sym live))));
        stays = λ first here. ⊎_elim
            (λ (is : (0 ≡ from) × (spent ≡ first)). absurd (later (place ∙ sym is.0)))
            (λ (is : (0 ≢ from) × (get_elem? (set views into both) 0 ≡ some first)). stays_set views into both kept.stays (both_live view other has.1) first is.1)
            (at_set (set views into both) from 0 spent first here);
      }

  -- ---- the start

  only_one : (P : ℕ → View → Type 0) (view : View) → P 0 view → (place : ℕ) (other : View) → get_elem? (view ∷ []) place ≡ some other → P place other
  only_one P view holds zero other at = subst (P 0) (some-injective view other at) holds
  only_one P view holds (suc place) other at = absurd (some-ne-none other (sym at))

  pub starts : tasks < 2 ^ 32 → Kept tasks rows tags (0 ∷ start_words rows tags) (first_view tasks tags ∷ [])
  starts small =
      let none : 0 ≡ min 0 tasks = omega arith in
      let first : View = first_view tasks tags in
      record {
        fair = subst Fair (λ k. record { tasks = tasks; next = none k; rows = rows; tags = tags; words = start_words rows tags; workers = map worker_of (first ∷ []) }) (starts-fair tasks rows tags);
        counted = omega arith;
        sized = starts_long rows tags;
        small = small;
        few = omega arith;
        seats = refl;
        misses = only_one (λ place view. view.misses ≤ view.seats) first (omega arith);
        sits = λ place view at live. only_one (λ place view. Sits tasks tags 1 place view) first
            (record { same_tasks = refl; same_tags = refl; numbered = refl; first = λ zero. refl; others = λ later. absurd (later refl) }) place view at;
        stays = λ view at. ap is_live (sym (some-injective first view at));
      }
