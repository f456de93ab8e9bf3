-- One more event is played.
use Rattle.std.proofs.Common.{◌≡◌, ℕ, ◌+◌, ◌<◌, ◌≤◌, nat_lt, cond, Bool, true, false, List, [], ◌∷◌, ◌++◌, length, get_or, set, take, drop, sym, refl, ap, ◌∙◌, subst, arith, append_assoc}
use Rattle.std.specs.Prelude.{Option, Some, None}
use Rattle.std.proofs.Math.ListN.{length-set}
use Rattle.std.proofs.lemmas.List.{at_drop_more, take_more, length_push, length-map}
use Rattle.std.proofs.lemmas.Option.{none-some}
use Rattle.tick_core.specs.Core.{Core, Worker, idle, work_of, splits}
use Rattle.tick_core.specs.Events.{is_allowed, after, answer_of, with_task, with_give, joined, rested}
use Rattle.tick_core.specs.Plays.{run, answers_of, first_bad, StandsBehind, SameTable}
use Rattle.tick_core.specs.declared.event.CoreEvent.{CoreEvent}
use Rattle.tick_core.specs.declared.event.CoreEvent.TheVariants.{Claim, Give as Gives, Split, Join, Turn}

-- ---- events behind others

run-push : (events : List CoreEvent) (event : CoreEvent) (core : Core) → run (events ++ event ∷ []) core ≡ after event (run events core)
run-push [] event core = refl
run-push (first ∷ events) event core = run-push events event (after first core)

none_bad : (b : Bool) (number : ℕ) (rest : Option ℕ) → cond b rest (Some number) ≡ None → (b ≡ true) × (rest ≡ None)
none_bad true number rest none = (refl, none)
none_bad false number rest none = absurd (none-some number (sym none))

first_bad-push : (number : ℕ) (events : List CoreEvent) (event : CoreEvent) (core : Core) → first_bad number events core ≡ None → is_allowed event (run events core) ≡ true
    → first_bad number (events ++ event ∷ []) core ≡ None
first_bad-push number [] event core none allowed = ap (λ (b : Bool). cond b None (Some number)) allowed
first_bad-push number (first ∷ events) event core none allowed =
    let parts = none_bad (is_allowed first core) number (first_bad (number + 1) events (after first core)) none in
    ap (λ (b : Bool). cond b (first_bad (number + 1) (events ++ event ∷ []) (after first core)) (Some number)) parts.0
    ∙ first_bad-push (number + 1) events event (after first core) parts.1 allowed

-- at most one worker more
splits-claim : (b : Bool) (core : Core) (worker : ℕ) (now : Option Worker)
    → splits (cond b (record core { next = core.next + 1; workers = set core.workers worker now }) core) ≤ splits core + 1
splits-claim true core worker now = let same = length-set core.workers worker now in omega (arith, same)
splits-claim false core worker now = omega arith

pub splits-after : (event : CoreEvent) (core : Core) → splits (after event core) ≤ splits core + 1
splits-after (Claim worker) core = splits-claim (nat_lt core.next core.tasks) core worker (Some (with_task (work_of core.workers worker) core.next))
splits-after (Gives worker word amount) core =
    let same = length-set core.workers worker (Some (with_give (work_of core.workers worker) record { word = word; amount = amount })) in omega (arith, same)
splits-after (Split worker) core = let more = length_push core.workers (Some idle) in omega (arith, more)
splits-after (Join into from) core =
    let now : Option Worker = Some (joined (work_of core.workers into) (work_of core.workers from)) in
    let first = length-set core.workers into now in
    let second = length-set (set core.workers into now) from None in
    omega (arith, first, second)
splits-after Turn core = let same = length-map core.workers rested in omega (arith, same)

pub table_through : {old middle new : Core} → SameTable old middle → SameTable middle new → SameTable old new
table_through first second =
    record { tasks = second.tasks ∙ first.tasks; rows = second.rows ∙ first.rows; tags = second.tags ∙ first.tags; words = second.words ∙ first.words }

-- ---- the next event of those that are left

module _ (events : List CoreEvent) (at : ℕ) (event : CoreEvent) (core : Core) (inside : at < length events) (is : event ≡ get_or events at event) where
  pub run-next : run (drop (at + 1) events) (after event core) ≡ run (drop at events) core
  run-next = ap (λ (e : CoreEvent). run (drop (at + 1) events) (after e core)) is ∙ sym (at_drop_more (λ (es : List CoreEvent). run es core) events at event inside)

  pub answers-next : (answers : List (Option ℕ)) → (answers ++ answer_of event core ∷ []) ++ answers_of (drop (at + 1) events) (after event core) ≡ answers ++ answers_of (drop at events) core
  answers-next answers =
      append_assoc answers (answer_of event core ∷ []) (answers_of (drop (at + 1) events) (after event core))
      ∙ ap (λ (e : CoreEvent). answers ++ (answer_of e core ∷ answers_of (drop (at + 1) events) (after e core))) is
      ∙ sym (at_drop_more (λ (es : List CoreEvent). answers ++ answers_of es core) events at event inside)

  pub first_bad-next : is_allowed event core ≡ true → first_bad (at + 1) (drop (at + 1) events) (after event core) ≡ first_bad at (drop at events) core
  first_bad-next allowed =
      sym (ap (λ (b : Bool). cond b (first_bad (at + 1) (drop (at + 1) events) (after event core)) (Some at)) allowed)
      ∙ ap (λ (e : CoreEvent). cond (is_allowed e core) (first_bad (at + 1) (drop (at + 1) events) (after e core)) (Some at)) is
      ∙ sym (at_drop_more (λ (es : List CoreEvent). first_bad at es core) events at event inside)

  pub stands-next : (old : Core) → StandsBehind events at old core → is_allowed event core ≡ true → StandsBehind events (at + 1) old (after event core)
  stands-next old stands allowed =
      let more : take (at + 1) events ≡ take at events ++ event ∷ [] = take_more events at event inside ∙ ap (λ (e : CoreEvent). take at events ++ e ∷ []) (sym is) in
      record {
        part = omega (arith, inside);
        allowed = ap (λ (es : List CoreEvent). first_bad 0 es old) more
            ∙ first_bad-push 0 (take at events) event old stands.allowed (subst (λ (c : Core). is_allowed event c ≡ true) stands.state allowed);
        state = ap (after event) stands.state ∙ sym (run-push (take at events) event old) ∙ ap (λ (es : List CoreEvent). run es old) (sym more);
      }
