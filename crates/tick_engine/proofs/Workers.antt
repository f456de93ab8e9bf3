-- Workers that have not begun.
use Rattle.std.proofs.Common.{◌≡◌, ℕ, ◌+◌, ◌-◌, ◌<◌, List, [], ◌∷◌, ◌++◌, None, length, get_or, sym, refl, ap, ◌∙◌, subst, arith}
use Rattle.std.specs.Prelude.{All}
use Rattle.std.proofs.lemmas.List.{length_push}
use Rattle.std.proofs.lemmas.List.Elements.{All-push, All-same}
use Rattle.effect_board.specs.declared.handles.Seat.{Seat}
use Rattle.effect_board.specs.declared.handles.EffectBoard.{EffectBoard}
use Rattle.effect_board.specs.Handles.{view_of, IsSeatOf}
use Rattle.task_board.specs.declared.worker.Worker.{Worker}
use Rattle.task_scratch.specs.declared.scratch.Scratch.{Scratch}
use Rattle.task_scratch.specs.Scratch.{IsNew}
use Rattle.task_board.specs.declared.summary.Summary.TheVariants.{Counted}
use Rattle.task_board.specs.Working.{AreWorkers, IsReady, IsLater}
use Rattle.task_board.proofs.Workers.{front_is, last_is}

pub ready_worker : (fits : Scratch → Type 0) (nodes : ℕ) (board : EffectBoard) (worker : Worker) (seat : Seat) (scratch : Scratch) → worker ≡ record { seat = seat; scratch = scratch; summary = Counted 0 None }
    → IsSeatOf board seat → fits scratch → IsNew scratch → length scratch.room.reach.items ≡ nodes
    → (view_of seat).claimed ≡ [] → (view_of seat).gives ≡ [] → (view_of seat).misses ≡ 0 → (view_of seat).seats ≡ 1 → IsReady fits nodes board worker
ready_worker fits nodes board worker seat scratch is of fit new sized claimed gives misses seats =
    subst (IsReady fits nodes board) (sym is) (record {
      of = of;
      no_tasks = claimed;
      no_gives = gives;
      fresh = misses;
      one = seats;
      summary = refl;
      scratch = fit;
      no_runs = new.runs;
      no_items = new.items;
      sized = sized;
      no_reach = new.reach;
    })

pub workers_of : (fits : Scratch → Type 0) (nodes : ℕ) (board : EffectBoard) (others : List Worker) (first : Worker) (workers : List Worker) → workers ≡ others ++ first ∷ [] → All (IsReady fits nodes board) others
    → IsReady fits nodes board first → All IsLater others → (view_of first.seat).number ≡ 0 → (view_of first.seat).made ≡ length others + 1 → AreWorkers fits nodes board workers
workers_of fits nodes board others first workers are ready one later number made =
    let long = ap length are ∙ length_push others first in
    let end : (d : Worker) → get_or workers (length workers - 1) d ≡ first = λ d. ap (λ (l : List Worker). get_or l (length workers - 1) d) are ∙ last_is others first d (length workers - 1) (omega (arith, long)) in
    record {
      some = omega (arith, long);
      ready = All-same (IsReady fits nodes board) workers (others ++ first ∷ []) are (All-push (IsReady fits nodes board) others first ready one);
      later = λ i d inside none.
          let there : i < length others = omega (arith, inside, long) in
          let here : get_or workers i d ≡ get_or others i d = ap (λ (l : List Worker). get_or l i d) are ∙ front_is others first i d there in
          later i d there (sym (ap (λ (h : Worker). (view_of h.seat).number) here) ∙ none);
      number = λ d. ap (λ (h : Worker). (view_of h.seat).number) (end d) ∙ number;
      made = λ d. ap (λ (h : Worker). (view_of h.seat).made) (end d) ∙ made ∙ sym long;
    }
