-- The worlds of a run that were written and shown one after the other.
use Rattle.std.proofs.Common.{◌≡◌, ◌∙◌, ◌+◌, ◌-◌, ◌<◌, ◌≤◌, ◌++◌, ℕ, zero, suc, Bool, true, List, [], ◌∷◌, length, Result, Ok, Err, refl, sym, ap, subst, arith, append_assoc, append-nil}
use Rattle.std.proofs.lemmas.Bool.{false≢true}
use Rattle.std.specs.Prelude.{◌≢◌, Option, Some, slice_get}
use Rattle.std.proofs.KnownBytes.{Appends-nil, Appends-trans, Keeps-refl}
use Rattle.std.proofs.Math.ListN.{length-append}
use Rattle.std.specs.Io.KnownBytes.{Appends}
use Rattle.sgl_outside.specs.Sinks.{AppendsPrefix}
use Rattle.sgl_outside.proofs.Writes.{prefix_after, prefix_more, prefix_nothing, rose_later}
use Rattle.sgl_values.specs.World.{World}
use Rattle.sgl_typed.specs.declared.schema.Schema.{Schema}
use Rattle.sgl_typed.specs.declared.script.TScript.{TScript}
use Rattle.sgl_typed.specs.declared.tick_fault.TickFault.{TickFault}
use Rattle.sgl_typed.specs.declared.tick_fault.TickFault.TheVariants as faults
use Rattle.sgl_typed.specs.Tick.{Run, before, run_on, tick, worlds}
use Rattle.sgl_typed.proofs.NextWorld.{next-follows}
use Rattle.env_table.specs.Table.{Table}
use Rattle.battle_watch.specs.Stages.{with_shown}
use Rattle.battle_watch.proofs.Stages.{shown_next}
use Rattle.battle_host.specs.declared.status.Status.{Status}
use Rattle.battle_host.specs.declared.status.Status.TheVariants as status
use Rattle.battle_host.specs.Play.{IsNext, IsShown, IsTurn, Lines, Plays, behind_text, behind_world, is_told, last_tick, run_end, shown_text, status_at, status_of, worlds_text}

-- the next world is that of the next tick
pub tick_more : (script : TScript) (world : World) (seed items : ℕ) (next : World) → tick script world seed items ≡ Ok next → next.tick ≡ world.tick + 1
tick_more script world seed items next is = (next-follows script world seed items next is).numbered

-- a turn whose tick was refused wrote nothing
pub turn_refused : (old : Option (List ℕ)) (count : ℕ) (summary : Bool) (schema : Schema) (line : List ℕ) (table : Table) (ticked : Result World TickFault) (t : ℕ) → t ≡ table.world.tick
    → (fault : TickFault) → (fault ≢ faults.Memory → ticked ≡ Err fault) → IsTurn old old count count summary schema line table ticked (Err (status_of t fault))
turn_refused old count summary schema line table ticked t at faults.Memory why = prefix_nothing old old (behind_text summary schema line ticked) (Keeps-refl old)
turn_refused old count summary schema line table ticked t at (faults.Items limit) why = (Appends-nil old, at, why (λ e. absurd (cc e)))
turn_refused old count summary schema line table ticked t at (faults.Script key f) why = (Appends-nil old, at, why (λ e. absurd (cc e)))
turn_refused old count summary schema line table ticked t at (faults.Cell key attr) why = (Appends-nil old, at, why (λ e. absurd (cc e)))
turn_refused old count summary schema line table ticked t at (faults.Post key f) why = (Appends-nil old, at, why (λ e. absurd (cc e)))
turn_refused old count summary schema line table ticked t at (faults.KeysSpent last children) why = (Appends-nil old, at, why (λ e. absurd (cc e)))
turn_refused old count summary schema line table ticked t at (faults.UnitsFull units) why = (Appends-nil old, at, why (λ e. absurd (cc e)))

-- a turn whose tick went well, and whose text was not written whole
pub turn_unshown : (old new : Option (List ℕ)) (before now : ℕ) (summary : Bool) (schema : Schema) (line text : List ℕ) (table : Table) (ticked : Result World TickFault) (next : World)
    → ticked ≡ Ok next → text ≡ line ++ shown_text summary schema next → (s : Status) → IsShown old new before now text (Err s) → IsTurn old new before now summary schema line table ticked (Err s)
turn_unshown old new before now summary schema line text table ticked next goes is status.WriteFault shown =
    (shown.1, subst (AppendsPrefix old new) (is ∙ sym (ap (behind_text summary schema line) goes)) shown.2)
turn_unshown old new before now summary schema line text table ticked next goes is status.Memory shown =
    subst (AppendsPrefix old new) (is ∙ sym (ap (behind_text summary schema line) goes)) shown.1
turn_unshown old new before now summary schema line text table ticked next goes is status.Done shown = absurd shown
turn_unshown old new before now summary schema line text table ticked next goes is status.Usage shown = absurd shown
turn_unshown old new before now summary schema line text table ticked next goes is status.ReadFault shown = absurd shown
turn_unshown old new before now summary schema line text table ticked next goes is (status.Script r) shown = absurd shown
turn_unshown old new before now summary schema line text table ticked next goes is (status.Units r) shown = absurd shown
turn_unshown old new before now summary schema line text table ticked next goes is (status.Battle t f) shown = absurd shown

-- a text behind another, in two writes
pub shown_then : (old mid new : Option (List ℕ)) (i j k : ℕ) (front text : List ℕ) (u : Unit {0}) (r : Result (Unit {0}) Status) → IsShown old mid i j front (Ok u) → IsShown mid new j k text r
    → IsShown old new i k (front ++ text) r
shown_then old mid new i j k front text u (Ok v) head tail = (omega (arith, head.0, tail.0), Appends-trans old mid new front text head.1 tail.1)
shown_then old mid new i j k front text u (Err status.WriteFault) head tail = (omega (arith, head.0, tail.0), rose_later i j k head.0 tail.1, prefix_after old mid new front text head.1 tail.2)
shown_then old mid new i j k front text u (Err status.Memory) head tail = (omega (arith, head.0, tail.0), prefix_after old mid new front text head.1 tail.1)
shown_then old mid new i j k front text u (Err status.Done) head tail = absurd tail
shown_then old mid new i j k front text u (Err status.Usage) head tail = absurd tail
shown_then old mid new i j k front text u (Err status.ReadFault) head tail = absurd tail
shown_then old mid new i j k front text u (Err (status.Script r)) head tail = absurd tail
shown_then old mid new i j k front text u (Err (status.Units r)) head tail = absurd tail
shown_then old mid new i j k front text u (Err (status.Battle t f)) head tail = absurd tail

-- the front of a text of which the rest was not begun
pub shown_front : (old new : Option (List ℕ)) (i j : ℕ) (front text : List ℕ) (s : Status) → IsShown old new i j front (Err s) → IsShown old new i j (front ++ text) (Err s)
shown_front old new i j front text status.WriteFault head = (head.0, head.1, prefix_more old new front text head.2)
shown_front old new i j front text status.Memory head = (head.0, prefix_more old new front text head.1)
shown_front old new i j front text status.Done head = absurd head
shown_front old new i j front text status.Usage head = absurd head
shown_front old new i j front text status.ReadFault head = absurd head
shown_front old new i j front text (status.Script r) head = absurd head
shown_front old new i j front text (status.Units r) head = absurd head
shown_front old new i j front text (status.Battle t f) head = absurd head

module _ (summary : Bool) (line : Lines) (script : TScript) (seed items : ℕ) where
  -- the run from a world, of so many ticks
  abbrev run : World → ℕ → Run
  run world left = worlds script world seed items left

  abbrev one : World → List ℕ
  one world = shown_text summary script.schema world

  abbrev texts : List World → List ℕ
  texts xs = worlds_text summary script.schema line xs

  abbrev after : World → List World → List ℕ
  after world xs = behind_world summary script.schema line world xs

  abbrev ticked : World → Result World TickFault
  ticked world = tick script world seed items

  -- the run behind a tick
  abbrev behind : Result World TickFault → ℕ → Run
  behind answer left = run_on (λ next. run next left) answer

  split : (ticks t : ℕ) (world : World) → t < ticks → run world (ticks - t) ≡ before world (behind (ticked world) (ticks - (t + 1)))
  split ticks t world more =
      let left : ticks - t ≡ suc (ticks - (t + 1)) = omega arith in
      ap (λ n. run world n) left

  last_is : (t u : ℕ) (world : World) (left : ℕ) → last_tick t (run world left).worlds ≡ last_tick u (run world left).worlds
  last_is t u world zero = refl
  last_is t u world (suc left) = refl

  end_split : (world next : World) (left : ℕ) → run_end (before world (run next left)) ≡ run_end (run next left)
  end_split world next left = ap (λ n. status_at n (run next left).end) (last_is world.tick 0 next left)

  pub end_more : (ticks t : ℕ) (world next : World) (whole : Status) → t < ticks → ticked world ≡ Ok next
      → run_end (run world (ticks - t)) ≡ whole → run_end (run next (ticks - (t + 1))) ≡ whole
  end_more ticks t world next whole more goes so_far =
      sym (end_split world next (ticks - (t + 1)))
      ∙ (ap (λ o. run_end (before world (behind o (ticks - (t + 1))))) (sym goes)
      ∙ (ap run_end (sym (split ticks t world more)) ∙ so_far))

  -- the worlds so far, and the rest of the run
  abbrev pub AreSoFar : List World → List World → World → ℕ → Type 0
  AreSoFar all done world left = all ≡ done ++ (run world left).worlds

  -- worlds and others behind them
  after_split : (first : World) (xs : List World) (world : World) (rest : List World) → after first (xs ++ world ∷ rest) ≡ after first (xs ++ world ∷ []) ++ after world rest
  after_split first [] world rest = ap (λ t. t ++ after world rest) (sym (append-nil (line first ++ one world)))
  after_split first (x ∷ xs) world rest =
      ap (λ t. (line first ++ one x) ++ t) (after_split x xs world rest) ∙ sym (append_assoc (line first ++ one x) (after x (xs ++ world ∷ [])) (after world rest))

  texts_split : (done : List World) (world : World) (rest : List World) → texts (done ++ world ∷ rest) ≡ texts (done ++ world ∷ []) ++ after world rest
  texts_split [] world rest = ap (λ t. t ++ after world rest) (sym (append-nil (one world)))
  texts_split (x ∷ xs) world rest = ap (λ t. one x ++ t) (after_split x xs world rest) ∙ sym (append_assoc (one x) (after x (xs ++ world ∷ [])) (after world rest))

  with_tail : (all done : List World) (ticks t : ℕ) (world : World) → t < ticks → AreSoFar all done world (ticks - t)
      → all ≡ done ++ world ∷ (behind (ticked world) (ticks - (t + 1))).worlds
  with_tail all done ticks t world more so_far = so_far ∙ ap (λ r. done ++ r.worlds) (split ticks t world more)

  -- the run from a world that is followed by others
  with_rest : (all done : List World) (ticks t : ℕ) (world : World) → t < ticks → AreSoFar all done world (ticks - t)
      → all ≡ (done ++ world ∷ []) ++ (behind (ticked world) (ticks - (t + 1))).worlds
  with_rest all done ticks t world more so_far =
      so_far ∙ (ap (λ r. done ++ r.worlds) (split ticks t world more) ∙ sym (append_assoc done (world ∷ []) (behind (ticked world) (ticks - (t + 1))).worlds))

  pub all_more : (all done : List World) (ticks t : ℕ) (world next : World) → t < ticks → ticked world ≡ Ok next → AreSoFar all done world (ticks - t)
      → AreSoFar all (done ++ world ∷ []) next (ticks - (t + 1))
  all_more all done ticks t world next more goes so_far =
      with_rest all done ticks t world more so_far ∙ ap (λ o. (done ++ world ∷ []) ++ (behind o (ticks - (t + 1))).worlds) goes

  head_at : (xs : List World) (next : World) (left n : ℕ) → length xs ≡ n → slice_get (xs ++ (run next left).worlds) n ≡ Some next
  head_at [] next zero zero is = refl
  head_at [] next (suc left) zero is = refl
  head_at [] next left (suc n) is = absurd (omega (arith, is))
  head_at (x ∷ xs) next left zero is = absurd (omega (arith, is))
  head_at (x ∷ xs) next left (suc n) is = head_at xs next left n (omega (arith, is))

  -- the next world is the entry of its position
  pub next_entry : (all done : List World) (ticks t : ℕ) (world next : World) → t < ticks → length done ≡ t → AreSoFar all done world (ticks - t) → ticked world ≡ Ok next
      → slice_get all (t + 1) ≡ Some next
  next_entry all done ticks t world next more counted so_far goes =
      let count : length (done ++ world ∷ []) ≡ t + 1 = length-append done (world ∷ []) ∙ ap (λ n. n + 1) counted in
      ap (λ xs. slice_get xs (t + 1)) (all_more all done ticks t world next more goes so_far) ∙ head_at (done ++ world ∷ []) next (ticks - (t + 1)) (t + 1) count

  next_is : (all done : List World) (ticks t : ℕ) (stage now : Option ℕ) (world : World) → t < ticks → length done ≡ t → now ≡ with_shown (t + 1) stage → AreSoFar all done world (ticks - t)
      → (r : Result World TickFault) → ticked world ≡ r → IsNext all now r
  next_is all done ticks t stage now world more counted shown so_far (Ok next) goes = shown_next all (t + 1) stage now next shown (next_entry all done ticks t world next more counted so_far goes)
  next_is all done ticks t stage now world more counted shown so_far (Err fault) goes = tt

  pub is_next : (all done : List World) (ticks t : ℕ) (stage now : Option ℕ) (world : World) → t < ticks → length done ≡ t → now ≡ with_shown (t + 1) stage → AreSoFar all done world (ticks - t)
      → IsNext all now (ticked world)
  is_next all done ticks t stage now world more counted shown so_far = next_is all done ticks t stage now world more counted shown so_far (ticked world) refl

  -- a tick that was refused ends the worlds
  refused_all : (all done : List World) (ticks t : ℕ) (world : World) (fault : TickFault) → t < ticks → ticked world ≡ Err fault → AreSoFar all done world (ticks - t)
      → all ≡ done ++ world ∷ []
  refused_all all done ticks t world fault more stops so_far =
      with_rest all done ticks t world more so_far ∙ (ap (λ o. (done ++ world ∷ []) ++ (behind o (ticks - (t + 1))).worlds) stops ∙ append-nil (done ++ world ∷ []))

  refused_end : (ticks t : ℕ) (world : World) (fault : TickFault) → t < ticks → ticked world ≡ Err fault → run_end (run world (ticks - t)) ≡ status.Battle world.tick fault
  refused_end ticks t world fault more stops =
      ap run_end (split ticks t world more) ∙ ap (λ o. run_end (before world (behind o (ticks - (t + 1))))) stops

  -- the last tick does too
  pub last_all : (all done : List World) (ticks t : ℕ) (world : World) → t ≡ ticks → AreSoFar all done world (ticks - t) → all ≡ done ++ world ∷ []
  last_all all done ticks t world last so_far =
      let none : ticks - t ≡ 0 = omega arith in
      so_far ∙ ap (λ n. done ++ (run world n).worlds) none

  pub last_end : (ticks t : ℕ) (world : World) → t ≡ ticks → run_end (run world (ticks - t)) ≡ status.Done
  last_end ticks t world last =
      let none : ticks - t ≡ 0 = omega arith in
      ap (λ n. run_end (run world n)) none

  -- all worlds are shown
  pub all_shown : (all done : List World) (t : ℕ) (world : World) (stage now : Option ℕ) → all ≡ done ++ world ∷ [] → length done ≡ t → now ≡ with_shown (t + 1) stage
      → now ≡ with_shown (length all) stage
  all_shown all done t world stage now is counted shown =
      let count : t + 1 ≡ length all = ap (λ n. n + 1) (sym counted) ∙ (sym (length-append done (world ∷ [])) ∙ ap length (sym is)) in
      subst (λ n. now ≡ with_shown n stage) count shown

  -- the text behind a tick begins with its line and that of the next world
  behind_cut : (world : World) (r : Result World TickFault) (left : ℕ) → (rest : List ℕ) × (after world (behind r left).worlds ≡ behind_text summary script.schema (line world) r ++ rest)
  behind_cut world (Ok next) zero = ([], refl)
  behind_cut world (Ok next) (suc left) = (after next (behind (ticked next) left).worlds, refl)
  behind_cut world (Err fault) left = ([], refl)

  module _ (a b c : Option (List ℕ)) (i j k : ℕ) (ticks t : ℕ) (table : Table) (all done : List World) (end : Status) where
    front : t < ticks → Appends a b (texts (done ++ table.world ∷ [])) → AreSoFar all done table.world (ticks - t)
        → AppendsPrefix b c (behind_text summary script.schema (line table.world) (ticked table.world)) → AppendsPrefix a c (texts all)
    front more wrote so_far cut =
        let rest = behind_cut table.world (ticked table.world) (ticks - (t + 1)) in
        let head = done ++ table.world ∷ [] in
        let next = behind_text summary script.schema (line table.world) (ticked table.world) in
        let text : texts all ≡ (texts head ++ next) ++ rest.0 =
        ap texts (with_tail all done ticks t table.world more so_far)
        ∙ (texts_split done table.world (behind (ticked table.world) (ticks - (t + 1))).worlds
        ∙ (ap (λ x. texts head ++ x) rest.1 ∙ sym (append_assoc (texts head) next rest.0))) in
        subst (AppendsPrefix a c) (sym text) (prefix_more a c (texts head ++ next) rest.0 (prefix_after a b c (texts head) next wrote cut))

    stopped : (fault : TickFault) → t < ticks → Appends a b (texts (done ++ table.world ∷ [])) → AreSoFar all done table.world (ticks - t)
        → run_end (run table.world (ticks - t)) ≡ end → (u : ℕ) → Appends b c [] → u ≡ table.world.tick → ticked table.world ≡ Err fault
        → Appends a c (texts all) × (end ≡ status.Battle u fault)
    stopped fault more wrote so_far ends u same at stops = (
      subst (Appends a c) (append-nil (texts (done ++ table.world ∷ [])) ∙ ap texts (sym (refused_all all done ticks t table.world fault more stops so_far)))
          (Appends-trans a b c (texts (done ++ table.world ∷ [])) [] wrote same),
      sym ends ∙ (refused_end ticks t table.world fault more stops ∙ ap (λ n. status.Battle n fault) (sym at)),
    )

    -- a turn that ended the run
    pub ended : (s : Status) → t < ticks → i ≤ j → Appends a b (texts (done ++ table.world ∷ [])) → AreSoFar all done table.world (ticks - t)
        → run_end (run table.world (ticks - t)) ≡ end
        → IsTurn b c j k summary script.schema (line table.world) table (ticked table.world) (Err s) → Plays a c i k (texts all) end s
    ended status.WriteFault more later wrote so_far ends turn = (rose_later i j k later turn.0, front more wrote so_far turn.1)
    ended status.Memory more later wrote so_far ends turn = front more wrote so_far turn
    ended (status.Battle u faults.Memory) more later wrote so_far ends turn = absurd turn
    ended (status.Battle u (faults.Items limit)) more later wrote so_far ends turn = stopped (faults.Items limit) more wrote so_far ends u turn.0 turn.1 turn.2
    ended (status.Battle u (faults.Script key f)) more later wrote so_far ends turn = stopped (faults.Script key f) more wrote so_far ends u turn.0 turn.1 turn.2
    ended (status.Battle u (faults.Cell key attr)) more later wrote so_far ends turn = stopped (faults.Cell key attr) more wrote so_far ends u turn.0 turn.1 turn.2
    ended (status.Battle u (faults.Post key f)) more later wrote so_far ends turn = stopped (faults.Post key f) more wrote so_far ends u turn.0 turn.1 turn.2
    ended (status.Battle u (faults.KeysSpent key children)) more later wrote so_far ends turn = stopped (faults.KeysSpent key children) more wrote so_far ends u turn.0 turn.1 turn.2
    ended (status.Battle u (faults.UnitsFull units)) more later wrote so_far ends turn = stopped (faults.UnitsFull units) more wrote so_far ends u turn.0 turn.1 turn.2
    ended status.Done more later wrote so_far ends turn = absurd turn
    ended status.Usage more later wrote so_far ends turn = absurd turn
    ended status.ReadFault more later wrote so_far ends turn = absurd turn
    ended (status.Script r) more later wrote so_far ends turn = absurd turn
    ended (status.Units r) more later wrote so_far ends turn = absurd turn

    -- where it was told, all worlds are shown
    pub ended_shown : (s : Status) (stage now : Option ℕ) → t < ticks → AreSoFar all done table.world (ticks - t) → length done ≡ t → now ≡ with_shown (t + 1) stage
        → IsTurn b c j k summary script.schema (line table.world) table (ticked table.world) (Err s) → is_told s ≡ true → now ≡ with_shown (length all) stage
    ended_shown status.WriteFault stage now more so_far counted shown turn told = absurd (false≢true told)
    ended_shown status.Memory stage now more so_far counted shown turn told = absurd (false≢true told)
    ended_shown (status.Battle u faults.Memory) stage now more so_far counted shown turn told = absurd turn
    ended_shown (status.Battle u (faults.Items limit)) stage now more so_far counted shown turn told =
        all_shown all done t table.world stage now (refused_all all done ticks t table.world (faults.Items limit) more turn.2 so_far) counted shown
    ended_shown (status.Battle u (faults.Script key f)) stage now more so_far counted shown turn told =
        all_shown all done t table.world stage now (refused_all all done ticks t table.world (faults.Script key f) more turn.2 so_far) counted shown
    ended_shown (status.Battle u (faults.Cell key attr)) stage now more so_far counted shown turn told =
        all_shown all done t table.world stage now (refused_all all done ticks t table.world (faults.Cell key attr) more turn.2 so_far) counted shown
    ended_shown (status.Battle u (faults.Post key f)) stage now more so_far counted shown turn told =
        all_shown all done t table.world stage now (refused_all all done ticks t table.world (faults.Post key f) more turn.2 so_far) counted shown
    ended_shown (status.Battle u (faults.KeysSpent key children)) stage now more so_far counted shown turn told =
        all_shown all done t table.world stage now (refused_all all done ticks t table.world (faults.KeysSpent key children) more turn.2 so_far) counted shown
    ended_shown (status.Battle u (faults.UnitsFull units)) stage now more so_far counted shown turn told =
        all_shown all done t table.world stage now (refused_all all done ticks t table.world (faults.UnitsFull units) more turn.2 so_far) counted shown
    ended_shown status.Done stage now more so_far counted shown turn told = absurd turn
    ended_shown status.Usage stage now more so_far counted shown turn told = absurd turn
    ended_shown status.ReadFault stage now more so_far counted shown turn told = absurd turn
    ended_shown (status.Script r) stage now more so_far counted shown turn told = absurd turn
    ended_shown (status.Units r) stage now more so_far counted shown turn told = absurd turn

  -- one turn more
  pub text_more : (a b c : Option (List ℕ)) (done : List World) (world next : World) → Appends a b (texts (done ++ world ∷ [])) → Appends b c (line world ++ one next)
      → Appends a c (texts ((done ++ world ∷ []) ++ next ∷ []))
  text_more a b c done world next wrote one_more =
      let text : texts ((done ++ world ∷ []) ++ next ∷ []) ≡ texts (done ++ world ∷ []) ++ (line world ++ one next) =
      ap texts (append_assoc done (world ∷ []) (next ∷ []))
      ∙ (texts_split done world (next ∷ []) ∙ ap (λ t. texts (done ++ world ∷ []) ++ t) (append-nil (line world ++ one next))) in
      subst (Appends a c) (sym text) (Appends-trans a b c (texts (done ++ world ∷ [])) (line world ++ one next) wrote one_more)

  -- the first world is a front of the whole
  pub first_cut : (a c : Option (List ℕ)) (world : World) (ticks : ℕ) → AppendsPrefix a c (one world) → AppendsPrefix a c (texts (run world ticks).worlds)
  first_cut a c world zero cut = prefix_more a c (one world) [] cut
  first_cut a c world (suc left) cut = prefix_more a c (one world) (after world (behind (ticked world) left).worlds) cut
