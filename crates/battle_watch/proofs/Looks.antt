-- What spectators note of the worlds of a run.
use Rattle.std.proofs.Common.{◌≡◌, ◌∙◌, ◌+◌, ◌-◌, ◌<◌, ◌≤◌, ◌++◌, ℕ, zero, suc, List, [], ◌∷◌, length, map, replicate, get_or, Result, Ok, Err, refl, sym, ap, subst, arith}
use Rattle.std.specs.Prelude.{All, Some, slice_get}
use Rattle.std.proofs.lemmas.List.Elements.{All-map, All-nil, All-push, All-replicate}
use Rattle.std.proofs.lemmas.Option.{none-some, same_Some, slice_get_within, slice_get-map, slice_get-get_or}
use Rattle.std.proofs.Math.ListN.{length-append}
use Rattle.std.proofs.lemmas.List.{length-map, length-replicate}
use Rattle.std.specs.Option.{option_map}
use Rattle.sgl_values.specs.World.{World}
use Rattle.sgl_typed.proofs.NextWorld.{next-follows}
use Rattle.sgl_typed.specs.Tick.{Run, run_on, tick, worlds}
use Rattle.sgl_typed.specs.declared.script.TScript.{TScript}
use Rattle.sgl_typed.specs.declared.tick_fault.TickFault.{TickFault}
use Rattle.battle_report.specs.declared.watch_line.Look.{Look}
use Rattle.battle_watch.specs.Watches.{AreNumbered, AreWatches, IsLook, IsWatch, RiseFromTo, look_of}
use Rattle.battle_watch.specs.Watching.{HasEnded, HasLearnt, IsWatching, Notes, Watching}

-- one more note, which is not before the last
pub rise_more : (low mid high : ℕ) (looks : List Look) (look : Look) → RiseFromTo low looks mid → mid ≤ look.tick → look.tick ≤ high
    → RiseFromTo low (looks ++ look ∷ []) high
rise_more low mid high [] look rise later under = (omega arith, omega arith)
rise_more low mid high (l ∷ ls) look rise later under = (rise.0, rise_more l.tick mid high ls look rise.1 later under)

-- the same up to a later number
pub rise_later : (low mid high : ℕ) (looks : List Look) → RiseFromTo low looks mid → mid ≤ high → RiseFromTo low looks high
rise_later low mid high [] rise later = omega arith
rise_later low mid high (l ∷ ls) rise later = (rise.0, rise_later l.tick mid high ls rise.1 later)

rise_same : (low high n : ℕ) (look : Look) → low ≤ look.tick → look.tick ≤ high → RiseFromTo low (replicate n look) high
rise_same low high zero look above under = omega arith
rise_same low high (suc n) look above under = (above, rise_same look.tick high n look (omega arith) under)

-- the element behind a list
pub get_last : {A : Type 0} (xs : List A) (x : A) (n : ℕ) → length xs ≡ n → slice_get (xs ++ x ∷ []) n ≡ Some x
get_last [] x zero is = refl
get_last [] x (suc n) is = absurd (omega (arith, is))
get_last (y ∷ ys) x zero is = absurd (omega (arith, is))
get_last (y ∷ ys) x (suc n) is = get_last ys x n (omega (arith, is))

get_same : {A : Type 0} (x : A) (n : ℕ) → slice_get (replicate (suc n) x) n ≡ Some x
get_same x zero = refl
get_same x (suc n) = get_same x n

-- ---- the worlds of a run are numbered

same_tick : (a b : World) → Some a ≡ Some b → b.tick ≡ a.tick + 0
same_tick a b is = let same : a ≡ b = same_Some a b is in let t : a.tick ≡ b.tick = ap (λ w. w.tick) same in omega (arith, t)

module _ (script : TScript) (seed limit : ℕ) where
  abbrev behind : ℕ → Result World TickFault → Run
  behind ticks r = run_on (λ next. worlds script next seed limit ticks) r

  numbered_behind : (world : World) (ticks position : ℕ) (found : World) → ((next : World) (p : ℕ) → slice_get (worlds script next seed limit ticks).worlds p ≡ Some found → found.tick ≡ next.tick + p)
      → (r : Result World TickFault) → tick script world seed limit ≡ r → slice_get (behind ticks r).worlds position ≡ Some found → found.tick ≡ world.tick + suc position
  numbered_behind world ticks position found each (Ok next) goes is =
      let more : found.tick ≡ next.tick + position = each next position is in
      let follows = (next-follows script world seed limit next goes).numbered in
      omega (arith, more, follows)
  numbered_behind world ticks position found each (Err fault) goes is = absurd (none-some found is)

  pub numbered_from : (world : World) (ticks position : ℕ) (found : World)
      → slice_get (worlds script world seed limit ticks).worlds position ≡ Some found → found.tick ≡ world.tick + position
  numbered_from world zero zero found is = same_tick world found is
  numbered_from world zero (suc position) found is = absurd (none-some found is)
  numbered_from world (suc ticks) zero found is = same_tick world found is
  numbered_from world (suc ticks) (suc position) found is =
      numbered_behind world ticks position found (λ next p. numbered_from next ticks p found) (tick script world seed limit) refl is

pub run_numbered : (script : TScript) (world : World) (seed limit ticks : ℕ) → world.tick ≡ 0 → AreNumbered (worlds script world seed limit ticks).worlds
run_numbered script world seed limit ticks first position found is =
    let from : found.tick ≡ world.tick + position = numbered_from script seed limit world ticks position found is in
    omega (arith, from, first)

run_some_of : (world : World) (run : Run) → 0 < length (world ∷ run.worlds)
run_some_of world run = omega arith

-- a run has a world
pub run_some : (script : TScript) (world : World) (seed limit ticks : ℕ) → 0 < length (worlds script world seed limit ticks).worlds
run_some script world seed limit zero = omega arith
run_some script world seed limit (suc ticks) = run_some_of world (behind script seed limit ticks (tick script world seed limit))

-- ---- a look

-- the note of the world at a position
pub look_at : (all : List World) (position : ℕ) (world : World) (note : Look) → AreNumbered all → slice_get all position ≡ Some world
    → note ≡ look_of world → IsLook all note
look_at all position world note numbered is what =
    let at : note.tick ≡ position = ap (λ n. n.tick) what ∙ numbered position world is in
    subst (λ p. slice_get (map look_of all) p ≡ Some note) (sym at) (slice_get-map look_of all position ∙ (ap (option_map look_of) is ∙ ap Some (sym what)))

-- it is of a world of the list
pub look_within : (all : List World) (note : Look) → IsLook all note → note.tick < length all
look_within all note is = let within : note.tick < length (map look_of all) = slice_get_within (map look_of all) note.tick note is in omega (arith, within, length-map all look_of)

-- a spectator with one note more
pub watching_more : (all : List World) (old new : Watching) → IsWatching all old → Notes all old new → IsWatching all new
watching_more all old new held more = record {
  numbered = held.numbered;
  few = omega (arith, held.few, more.same);
  looks = subst (All (IsLook all)) (sym more.notes) (All-push (IsLook all) old.notes more.note held.looks more.is_look);
  rise = subst (λ xs. RiseFromTo 0 xs new.seen) (sym more.notes) (rise_more 0 old.seen new.seen old.notes more.note held.rise more.later (omega (arith, more.seen)));
}

-- a spectator that has learnt
pub watching_learnt : (all : List World) (old new : Watching) → HasLearnt all old new → IsWatching all new
watching_learnt all old new learnt =
    let held = learnt.held in record {
      numbered = held.numbered;
      few = omega (arith, held.few, learnt.same);
      looks = subst (All (IsLook all)) (sym learnt.notes) held.looks;
      rise = subst (λ xs. RiseFromTo 0 xs new.seen) (sym learnt.notes) (rise_later 0 old.seen new.seen old.notes held.rise learnt.later);
    }

-- the last look, of one that has learnt of the last world
pub ended : (all : List World) (looks : ℕ) (old mid new : Watching) → length old.notes ≡ looks → HasLearnt all old mid → Notes all mid new
    → IsWatch all looks new.notes
ended all looks old mid new count learnt more =
    let held : IsWatching all mid = watching_learnt all old mid learnt in
    let counted : length mid.notes ≡ looks = ap length learnt.notes ∙ count in
    let within : more.note.tick < length all = look_within all more.note more.is_look in
    let at : more.note.tick ≡ length all - 1 = omega (arith, within, learnt.last, more.later) in
    record {
      full = ap length more.notes ∙ (length-append mid.notes (more.note ∷ []) ∙ ap (λ n. n + 1) counted);
      seen = (watching_more all mid new held more).looks;
      rise = rise_later 0 new.seen (length all - 1) new.notes (watching_more all mid new held more).rise (omega (arith, at, more.seen));
      last = ap (λ xs. slice_get xs looks) more.notes ∙ (get_last mid.notes more.note looks counted ∙ subst (λ p. Some more.note ≡ slice_get (map look_of all) p) at (sym more.is_look));
    }

-- ---- spectators may have noted something, of any run

module _ (all : List World) where
  abbrev pub last_world : World
  last_world = get_or all (length all - 1) record { tick = 0; last_key = 0; rows = [] }

  steady : (looks : ℕ) → AreNumbered all → 0 < length all → IsWatch all looks (replicate (looks + 1) (look_of last_world))
  steady looks numbered some =
      let is : slice_get all (length all - 1) ≡ Some last_world = slice_get-get_or all (length all - 1) record { tick = 0; last_key = 0; rows = [] } (omega (arith, some)) in
      let at : last_world.tick ≡ length all - 1 = numbered (length all - 1) last_world is in
      let one : looks + 1 ≡ suc looks = omega arith in
      let note : IsLook all (look_of last_world) = look_at all (length all - 1) last_world (look_of last_world) numbered is refl in
      record {
        full = length-replicate (looks + 1) (look_of last_world);
        seen = All-replicate (IsLook all) (looks + 1) (look_of last_world) note;
        rise = rise_same 0 (length all - 1) (looks + 1) (look_of last_world) (omega arith) (omega (arith, at));
        last = ap (λ n. slice_get (replicate n (look_of last_world)) looks) one ∙ (get_same (look_of last_world) looks ∙ (sym note ∙ ap (slice_get (map look_of all)) at));
      }

  pub some_watches : (spectators looks : ℕ) → AreNumbered all → 0 < length all
      → AreWatches all spectators looks (replicate spectators (replicate (looks + 1) (look_of last_world)))
  some_watches spectators looks numbered some = record {
    full = length-replicate spectators (replicate (looks + 1) (look_of last_world));
    each = All-replicate (IsWatch all looks) spectators (replicate (looks + 1) (look_of last_world)) (steady looks numbered some);
  }

-- what the spectators noted
pub watches_of : (all : List World) (spectators looks : ℕ) (seated : List Watching) → length seated ≡ spectators → All (HasEnded all looks) seated
    → AreWatches all spectators looks (map (λ watch. watch.notes) seated)
watches_of all spectators looks seated full ended = record {
  full = length-map seated (λ watch. watch.notes) ∙ full;
  each = All-map (IsWatch all looks) (λ watch. watch.notes) seated ended;
}

-- without spectators nothing is noted
pub no_watches : (all : List World) (looks : ℕ) → AreWatches all 0 looks []
no_watches all looks = record { full = refl; each = All-nil (IsWatch all looks) }
