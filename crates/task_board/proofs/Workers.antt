-- The workers after the work: the last has the first seat, and the others do not.
use Rattle.std.proofs.Common.{◌≡◌, ℕ, zero, suc, ◌+◌, ◌-◌, ◌<◌, List, [], ◌∷◌, ◌++◌, Some, length, get_or, sym, refl, ap, ◌∙◌, arith}
use Rattle.std.specs.Prelude.{All}
use Rattle.std.proofs.lemmas.List.{length_push}
use Rattle.std.proofs.lemmas.List.Elements.{All-pop}
use Rattle.effect_board.specs.declared.handles.EffectBoard.{EffectBoard}
use Rattle.effect_board.specs.Handles.{view_of}
use Rattle.task_board.specs.declared.worker.Worker.{Worker}
use Rattle.task_scratch.specs.declared.scratch.Scratch.{Scratch}
use Rattle.task_scratch.specs.Job.{Job}
use Rattle.task_board.specs.Working.{AreDone, AreWorkers, AreSame, IsDone, IsGathering, IsLater, IsSame}

pub front_is : {A : Type 0} (xs : List A) (x : A) (k : ℕ) (d : A) → k < length xs → get_or (xs ++ x ∷ []) k d ≡ get_or xs k d
front_is [] x k d inside = absurd (omega (arith, inside))
front_is (y ∷ xs) x zero d inside = refl
front_is (y ∷ xs) x (suc k) d inside = front_is xs x k d (omega (arith, inside))

pub last_is : {A : Type 0} (xs : List A) (x d : A) (n : ℕ) → n ≡ length xs → get_or (xs ++ x ∷ []) n d ≡ x
last_is [] x d zero is = refl
last_is [] x d (suc n) is = absurd (omega (arith, is))
last_is (y ∷ xs) x d zero is = absurd (omega (arith, is))
last_is (y ∷ xs) x d (suc n) is = last_is xs x d n (omega (arith, is))

pub record Parted (job : Job) (board : EffectBoard) (front : List Worker) (last : Worker) : Type 0 where
  pub others : All (IsDone job board) front
  pub later : All IsLater front
  pub first : IsGathering job board (length front) last

pub parted : (job : Job) (board : EffectBoard) (workers front : List Worker) (last : Worker) → AreDone job board workers → workers ≡ front ++ last ∷ [] → Parted job board front last
parted job board workers front last done is =
    let after = length_push front last in
    let now_long = ap length is in
    let popped = All-pop (IsDone job board) workers front (Some last) is done.done in
    let here : length workers - 1 ≡ length front = omega (arith, after, now_long) in
    let end : get_or workers (length workers - 1) last ≡ last = ap (λ (l : List Worker). get_or l (length workers - 1) last) is ∙ last_is front last last (length workers - 1) here in
    let made : (view_of last.seat).made ≡ length workers = ap (λ (h : Worker). (view_of h.seat).made) (sym end) ∙ done.made last in
    let one = popped.1.one in
    record {
      others = popped.0;
      later = λ k d inside none.
          let there : k + 1 < length workers = omega (arith, inside, after, now_long) in
          let same_here : get_or workers k d ≡ get_or front k d = ap (λ (l : List Worker). get_or l k d) is ∙ front_is front last k d inside in
          done.later k d there (ap (λ (h : Worker). (view_of h.seat).number) same_here ∙ none);
      first = record {
        holds = popped.1.holds;
        first = ap (λ (h : Worker). (view_of h.seat).number) (sym end) ∙ done.number last;
        all = omega (arith, made, one, after, now_long);
        missed = popped.1.missed;
      };
    }

-- workers that were ready, behind the work
pub done_of : (job : Job) (fits : Scratch → Type 0) (nodes : ℕ) (board : EffectBoard) (old new : List Worker) → AreWorkers fits nodes board old → AreSame old new → All (IsDone job board) new → AreDone job board new
done_of job fits nodes board old new workers same done =
    let some = workers.some in
    let long = same.long in
    record {
      some = omega (arith, some, long);
      done = done;
      later = λ i d inside none. workers.later i d (omega (arith, inside, long)) (sym (same.same i d (omega (arith, inside, long))).number ∙ none);
      number = λ d.
          let kept : IsSame (get_or old (length new - 1) d) (get_or new (length new - 1) d) = same.same (length new - 1) d (omega (arith, some, long)) in
          kept.number ∙ ap (λ (n : ℕ). (view_of (get_or old (n - 1) d).seat).number) long ∙ workers.number d;
      made = λ d.
          let kept : IsSame (get_or old (length new - 1) d) (get_or new (length new - 1) d) = same.same (length new - 1) d (omega (arith, some, long)) in
          kept.made ∙ ap (λ (n : ℕ). (view_of (get_or old (n - 1) d).seat).made) long ∙ workers.made d ∙ sym long;
    }
