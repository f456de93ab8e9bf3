-- A core stays one through each call.
use Rattle.std.proofs.Common.{◌≡◌, ◌≢◌, ℕ, ◌+◌, ◌*◌, ◌<◌, ◌≤◌, ◌==◌, ◌&&◌, not, nat_lt, cond, Bool, true, List, length, get_or, set, map, sym, refl, ap, ◌∙◌, subst, ⊎_elim, arith}
use Rattle.std.specs.Prelude.{Option, Some, None}
use Rattle.std.specs.List.{range_with_len}
use Rattle.std.proofs.Math.ListN.{length-set}
use Rattle.std.proofs.lemmas.Bool.{ne_eqb, cases_lt}
use Rattle.std.proofs.lemmas.Bool.Decides.{nat_tests}
use Rattle.std.proofs.lemmas.List.{length-map}
use Rattle.std.proofs.lemmas.List.FromFn.{length-map-range_with_len}
use Rattle.sgl_values.specs.declared.fault.Tag.{Tag}
use Rattle.effect_combine.specs.Words.{start_of, merged}
use Rattle.tick_core.specs.Core.{Core, Worker, work_of, lives, tag_of, start_words, at_start}
use Rattle.tick_core.specs.Events.{after, with_task, with_give, joined, rested}
use Rattle.tick_core.specs.Fair.{Fair, IsCore}
use Rattle.tick_core.specs.Plays.{SameTable}
use Rattle.tick_core.specs.declared.event.CoreEvent.TheVariants.{Claim, Give as Gives, Join, Turn}
use Rattle.tick_core.proofs.Keeping.{keeps-fair, starts-fair}

-- where the sizes stay
stays_core : (old new : Core) → IsCore old → new.rows ≡ old.rows → new.tags ≡ old.tags → length new.words ≡ length old.words → length new.workers ≡ length old.workers
    → Fair new → IsCore new
stays_core old new is rows tags words workers fair = record {
  few = omega (arith, rows, is.few);
  narrow = omega (arith, ap length tags, is.narrow);
  full = words ∙ is.full ∙ sym (λ k. rows k * length (tags k));
  started = omega (arith, workers, is.started);
  countable = omega (arith, workers, is.countable);
  fair = fair;
}

length-start_words : (rows : ℕ) (tags : List Tag) → length (start_words rows tags) ≡ rows * length tags
length-start_words rows tags = length-map-range_with_len (λ word. start_of (tag_of tags word)) 0 (rows * length tags)

module _ (core : Core) (is : IsCore core) where
  pub IsCore-claimed : (worker : ℕ) (workers : List (Option Worker)) → lives core.workers worker ≡ true → core.next < core.tasks
      → workers ≡ set core.workers worker (Some (with_task (work_of core.workers worker) core.next)) → IsCore record core { next = core.next + 1; workers = workers }
  IsCore-claimed worker workers alive left same =
      let new : Core = record core { next = core.next + 1; workers = workers } in
      let told : nat_lt core.next core.tasks ≡ true = grind (arith, nat_tests) in
      let event : new ≡ after (Claim worker) core =
      (λ k. record core { next = core.next + 1; workers = same k })
      ∙ sym (ap (λ (b : Bool). cond b (record core { next = core.next + 1; workers = set core.workers worker (Some (with_task (work_of core.workers worker) core.next)) }) core) told) in
      stays_core core new is refl refl refl (ap length same ∙ length-set core.workers worker (Some (with_task (work_of core.workers worker) core.next)))
      (subst Fair (sym event) (keeps-fair (Claim worker) core alive is.fair))

  pub IsCore-given : (worker word amount : ℕ) (words : List ℕ) (workers : List (Option Worker)) → lives core.workers worker ≡ true → word < length core.words
      → words ≡ set core.words word (merged (tag_of core.tags word) (get_or core.words word 0) amount)
      → workers ≡ set core.workers worker (Some (with_give (work_of core.workers worker) record { word = word; amount = amount }))
      → IsCore record core { words = words; workers = workers }
  IsCore-given worker word amount words workers alive inside merge same =
      let new : Core = record core { words = words; workers = workers } in
      let event : new ≡ after (Gives worker word amount) core = λ k. record core { words = merge k; workers = same k } in
      let told : nat_lt word (length core.words) ≡ true = grind (arith, nat_tests) in
      stays_core core new is refl refl (ap length merge ∙ length-set core.words word (merged (tag_of core.tags word) (get_or core.words word 0) amount))
      (ap length same ∙ length-set core.workers worker (Some (with_give (work_of core.workers worker) record { word = word; amount = amount })))
      (subst Fair (sym event) (keeps-fair (Gives worker word amount) core (λ k. alive k && told k) is.fair))

  pub IsCore-joined : (into from : ℕ) (workers : List (Option Worker)) → lives core.workers into ≡ true → lives core.workers from ≡ true → into ≢ from
      → workers ≡ set (set core.workers into (Some (joined (work_of core.workers into) (work_of core.workers from)))) from None
      → IsCore record core { workers = workers }
  IsCore-joined into from workers alive other apart same =
      let new : Core = record core { workers = workers } in
      let taken : List (Option Worker) = set core.workers into (Some (joined (work_of core.workers into) (work_of core.workers from))) in
      let told : not (into == from) ≡ true = ap not (ne_eqb into from apart) in
      stays_core core new is refl refl refl (ap length same ∙ length-set taken from None ∙ length-set core.workers into (Some (joined (work_of core.workers into) (work_of core.workers from))))
      (subst Fair (sym (λ k. record core { workers = same k })) (keeps-fair (Join into from) core (λ k. alive k && (other k && told k)) is.fair))

  pub IsCore-turned : (words : List ℕ) (workers : List (Option Worker)) → words ≡ start_words core.rows core.tags → workers ≡ map rested core.workers
      → IsCore record core { next = 0; words = words; workers = workers }
  IsCore-turned words workers start same =
      let new : Core = record core { next = 0; words = words; workers = workers } in
      stays_core core new is refl refl (ap length start ∙ length-start_words core.rows core.tags ∙ sym is.full) (ap length same ∙ length-map core.workers rested)
      (subst Fair (sym (λ k. record core { next = 0; words = start k; workers = same k })) (keeps-fair Turn core refl is.fair))

  pub SameTable-turned : (words : List ℕ) (workers : List (Option Worker)) → words ≡ start_words core.rows core.tags → SameTable core record core { next = 0; words = words; workers = workers }
  SameTable-turned words workers start =
      record { tasks = refl; rows = refl; tags = refl; words = ap length start ∙ length-start_words core.rows core.tags ∙ sym is.full }

  -- the words at the start, by their number and the tags as they are read
  pub reset_is : (tags : List Tag) → tags ≡ core.tags → map (λ word. start_of (tag_of tags word)) (range_with_len 0 (length core.words)) ≡ start_words core.rows core.tags
  reset_is tags same = λ k. map (λ word. start_of (tag_of (same k) word)) (range_with_len 0 (is.full k))

  -- a word has a tag
  pub has_tag : 0 < length core.words → 0 < length core.tags
  has_tag some =
      ⊎_elim (λ (tagged : 0 < length core.tags). tagged)
      (λ (none : length core.tags ≤ 0).
      let zero : length core.tags ≡ 0 = omega (arith, none) in
      let words = is.full ∙ ap (λ (n : ℕ). core.rows * n) zero in
      absurd (omega (arith, words, some))) (cases_lt 0 (length core.tags))

pub IsCore-start : (tasks rows : ℕ) (tags : List Tag) (words : List ℕ) (workers : List (Option Worker)) → rows ≤ 65536 → length tags ≤ 16
    → words ≡ start_words rows tags → workers ≡ (at_start tasks rows tags).workers
    → IsCore record { tasks = tasks; next = 0; rows = rows; tags = tags; words = words; workers = workers }
IsCore-start tasks rows tags words workers few narrow start same =
    let new : Core = record { tasks = tasks; next = 0; rows = rows; tags = tags; words = words; workers = workers } in
    let event : new ≡ at_start tasks rows tags = λ k. record { tasks = tasks; next = 0; rows = rows; tags = tags; words = start k; workers = same k } in
    let one = ap length same in
    record {
      few = few;
      narrow = narrow;
      full = ap length start ∙ length-start_words rows tags;
      started = omega (arith, one);
      countable = omega (arith, one);
      fair = subst Fair (sym event) (starts-fair tasks rows tags);
    }
