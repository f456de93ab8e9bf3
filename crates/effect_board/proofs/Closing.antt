-- What a board is closed with: the first seat stands for all seats, so what all did is what it has.
use Rattle.std.proofs.Common.{◌≡◌, ℕ, suc, ◌+◌, ◌*◌, ◌<◌, ◌==◌, min, cond, Bool, true, false, List, [], ◌∷◌, ◌++◌, map, length, get_or, sym, refl, ap, ◌∙◌, add-one, arith}
use Rattle.std.specs.Prelude.{Option, None}
use Rattle.std.proofs.lemmas.Bool.Decides.{nat_tests}
use mathlib.Core.Option.{some, some-injective, some-ne-none}
use lib.ListN.{get_elem?}
use Rattle.atomic_table.specs.Table.{State, Final, Seen}
use Rattle.sgl_values.specs.declared.fault.Tag.{Tag}
use Rattle.tick_core.specs.Core.{Worker, work, tag_of, claimed_by_all, given_by_all}
use Rattle.tick_core.specs.Fair.{gathered}
use Rattle.tick_core.specs.declared.event.Give.{Give}
use Rattle.tick_core.proofs.Gathering.{times}
use Rattle.effect_board.specs.declared.view.View.{View}
use Rattle.effect_board.specs.Views.{is_live, stands_for_all, table_rows, own_rows}
use Rattle.effect_board.specs.Rule.{first_of, worker_of, sum_of, Sits, Kept, Ends}
use Rattle.effect_board.proofs.Claiming.{claims_are_counted}
use Rattle.effect_board.proofs.Keeping.{AllWait, live_is, both_true, is_zero}
use Rattle.effect_board.proofs.Lists.{append_nothing, get_later, rest_long, sum_below}
use Rattle.effect_board.proofs.Own.{IsMerged, same_is}
use Rattle.effect_board.proofs.Stepping.{worker_is, no_worker}

dead_is : (view : View) → view.seats ≡ 0 → is_live view ≡ false
dead_is view none = grind (arith, nat_tests)

-- seats that stand for none have done nothing
none_left : (views : List View) → sum_of (λ v. v.seats) views ≡ 0 → (given_by_all (map worker_of views) ≡ []) × (claimed_by_all (map worker_of views) ≡ [])
none_left [] none = (refl, refl)
none_left (view ∷ views) none =
    let here : worker_of view ≡ None = no_worker view (dead_is view (omega (arith, none))) in
    let rest = none_left views (omega (arith, none)) in (
      ap (λ (w : Option Worker). (work w).gives ++ given_by_all (map worker_of views)) here ∙ rest.0,
      ap (λ (w : Option Worker). (work w).claimed ++ claimed_by_all (map worker_of views)) here ∙ rest.1,
    )

-- the first seat did all
alone : (views : List View) (view : View) → get_elem? views 0 ≡ some view → is_live view ≡ true → sum_of (λ v. v.seats) views ≡ view.seats → AllWait views
    → (given_by_all (map worker_of views) ≡ view.gives) × (claimed_by_all (map worker_of views) ≡ view.claimed) × (sum_of (λ v. v.misses) views ≡ view.misses)
alone [] view at live all waits = absurd (some-ne-none view (sym at))
alone (first ∷ views) view at live all waits =
    let same : first ≡ view = some-injective first view at in
    let seats : first.seats ≡ view.seats = ap (λ (v : View). v.seats) same in
    let misses : first.misses ≡ view.misses = ap (λ (v : View). v.misses) same in
    let none : sum_of (λ v. v.seats) views ≡ 0 = omega (arith, all, seats) in
    let rest = none_left views none in
    let idle = sum_below (λ v. v.misses) (λ v. v.seats) views (λ i v here. waits (suc i) v here) in
    let worker = ap worker_of same ∙ worker_is view live in (
      ap (λ (w : Option Worker). (work w).gives ++ given_by_all (map worker_of views)) worker ∙ ap (λ (l : List Give). view.gives ++ l) rest.0 ∙ append_nothing view.gives,
      ap (λ (w : Option Worker). (work w).claimed ++ claimed_by_all (map worker_of views)) worker ∙ ap (λ (l : List ℕ). view.claimed ++ l) rest.1 ∙ append_nothing view.claimed,
      omega (arith, idle, none, misses),
    )

module _ (tasks rows : ℕ) (tags : List Tag) where
  ends : (words : List ℕ) (views : List View) (place : ℕ) (view : View) (items : List ℕ) → Kept tasks rows tags words views → get_elem? views place ≡ some view → 0 < view.seats
      → stands_for_all view ≡ true → length items ≡ rows * length tags → ((word : ℕ) → word < length items → get_or items word 0 ≡ get_or words (word + 1) 0)
      → Ends tasks rows tags view record { rows = rows; width = length tags; words = items }
  ends words views place view items kept at some_seat whole long read =
      let live = live_is view some_seat in
      let told = both_true (view.number == 0) (view.seats == view.made) whole in
      let zero : view.number ≡ 0 = is_zero view.number told.0 in
      let made : view.seats ≡ view.made = same_is view.seats view.made told.1 in
      let sits : Sits tasks tags (length views) place view = kept.sits place view at live in
      let first : place ≡ 0 = sym sits.numbered ∙ zero in
      let all : sum_of (λ v. v.seats) views ≡ view.seats = kept.seats ∙ sym (sits.first zero) ∙ sym made in
      let did = alone views view (sym (ap (λ (i : ℕ). get_elem? views i) first) ∙ at) live all kept.misses in
      let missed = did.2 in
      let counted = kept.counted in
      let claimed = claims_are_counted tasks rows tags words views kept in
      let full = rest_long words (rows * length tags) kept.sized in
      record {
        rows_are = refl;
        width_is = refl;
        full = long;
        words = λ word inside.
            read word (omega (arith, inside, long)) ∙ rw add-one (get_later words word) ∙ kept.fair.words word (omega (arith, inside, full))
            ∙ ap (gathered (tag_of tags word) word) did.0;
        next = min (first_of words) tasks;
        given_out = omega arith;
        once = λ task. ap (times task) (sym did.1) ∙ kept.fair.once task;
        all = λ some_miss. omega (arith, counted, claimed, missed, some_miss);
      }

  -- the state in which the board was closed tells what its words are
  pub closes : (place : ℕ) (view : View) (words slots items : List ℕ) → Final (Seen (λ (s : State ℕ View). Kept tasks rows tags s.words s.views) place view) words slots
      → 0 < view.seats → stands_for_all view ≡ true → length items ≡ rows * length tags → ((word : ℕ) → word < length items → get_or items word 0 ≡ get_or words (word + 1) 0)
      → Ends tasks rows tags view record { rows = rows; width = length tags; words = items }
  closes place view words slots items final some_seat whole long read =
      let s = final.0 in
      let seen = final.1 in
      ends s.words s.views place view items seen.0 seen.1 some_seat whole long (λ word inside. read word inside ∙ ap (λ (l : List ℕ). get_or l (word + 1) 0) (sym final.2))

-- the words are those of the one seat where its worker is alone, and else those of the table
module _ (tasks rows : ℕ) (tags : List Tag) (view : View) (told : List Give) (own shared : List ℕ) where
  pub ends_either : (alone : Bool) → Ends tasks (table_rows alone rows) tags view record { rows = table_rows alone rows; width = length tags; words = shared }
      → length own ≡ own_rows alone rows * length tags → IsMerged tags own told → (length own ≡ 0 → told ≡ []) → (0 < length own → view.gives ≡ [])
      → Ends tasks rows tags record view { gives = told ++ view.gives } record { rows = rows; width = length tags; words = cond alone own shared }
  ends_either true ends long merges no_own lone = record {
    rows_are = refl;
    width_is = refl;
    full = long;
    words = λ word inside.
        merges word (omega (arith, long, inside))
        ∙ ap (gathered (tag_of tags word) word) (sym (ap (λ (l : List Give). told ++ l) (lone (omega (arith, long, inside))) ∙ append_nothing told));
    next = ends.next;
    given_out = ends.given_out;
    once = ends.once;
    all = ends.all;
  }
  ends_either false ends long merges no_own lone = record {
    rows_are = refl;
    width_is = refl;
    full = ends.full;
    words = λ word inside. ends.words word inside ∙ ap (gathered (tag_of tags word) word) (ap (λ (l : List Give). l ++ view.gives) (sym (no_own (omega (arith, long)))));
    next = ends.next;
    given_out = ends.given_out;
    once = ends.once;
    all = ends.all;
  }
