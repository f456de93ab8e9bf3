-- A worker's place is emptied before another takes over what it did.
use Rattle.std.proofs.Common.{◌≡◌, ◌≢◌, ℕ, List, get_or, set, sym, ap, ◌∙◌}
use Rattle.std.specs.Prelude.{Option, Some, None}
use Rattle.std.proofs.lemmas.List.{get_or-set_other, set_comm, set-set, set-get_or}
use Rattle.tick_core.specs.Core.{Worker, work, work_of}
use Rattle.tick_core.specs.Events.{joined}

module _ (workers : List (Option Worker)) (into from : ℕ) (worker : Worker) (is : get_or workers from None ≡ Some worker) (apart : into ≢ from) where
  pub join-ok : (now : List (Option Worker)) → now ≡ set (set workers from None) into (Some (joined (work_of (set workers from None) into) worker))
      → now ≡ set (set workers into (Some (joined (work_of workers into) (work_of workers from)))) from None
  join-ok now told =
      told
      ∙ (λ k. set (set workers from None) into (Some (joined (work (get_or-set_other workers from into None None apart k)) (work (sym is k)))))
      ∙ set_comm workers from into None (Some (joined (work_of workers into) (work_of workers from))) (λ same. apart (sym same))

  pub join-err : (now : List (Option Worker)) (kept : Worker) → now ≡ set workers from None → kept ≡ worker → set now from (Some kept) ≡ workers
  join-err now kept told same =
      (λ k. set (told k) from (Some (same k)))
      ∙ set-set workers from None (Some worker)
      ∙ ap (set workers from) (sym is)
      ∙ set-get_or workers from None
