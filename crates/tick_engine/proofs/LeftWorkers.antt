-- Workers that have left their rooms are done as before.
use Rattle.std.proofs.Common.{◌≡◌, ℕ, ◌+◌, ◌-◌, ◌<◌, List, length, get_or, sym, ap, ◌∙◌, subst, arith}
use Rattle.std.specs.Prelude.{All}
use Rattle.effect_board.specs.declared.handles.EffectBoard.{EffectBoard}
use Rattle.effect_board.specs.declared.handles.Seat.{Seat}
use Rattle.effect_board.specs.Handles.{view_of, IsSeatOf}
use Rattle.task_board.specs.declared.worker.Worker.{Worker}
use Rattle.task_board.specs.declared.summary.Summary.{Summary}
use Rattle.task_board.specs.Job.{items_of}
use Rattle.task_board.specs.Summing.{Reaches, Tells}
use Rattle.task_board.specs.Working.{AreDone, IsDone}
use Rattle.task_scratch.specs.Job.{Job}
use Rattle.tick_engine.specs.Leaving.{AreLeft, IsLeft}

one_left : (job : Job) (board : EffectBoard) (old new : Worker) → IsLeft old new → IsDone job board old → IsDone job board new
one_left job board old new left done =
    let seat : old.seat ≡ new.seat = sym left.seat in
    let summary : old.summary ≡ new.summary = sym left.summary in
    let reach : old.scratch.room.reach.items ≡ new.scratch.room.reach.items = sym left.reach in
    record {
      holds = record {
        of = subst (IsSeatOf board) seat done.holds.of;
        tells = subst (λ (p : Seat × Summary). Tells job p.1 (view_of p.0).gives (items_of job (view_of p.0).claimed)) (λ i. (seat i, summary i)) done.holds.tells;
        sized = ap (λ (l : List ℕ). length l) left.reach ∙ done.holds.sized;
        reaches = subst (λ (p : Seat × Summary × List ℕ). Reaches job p.1 p.2 (view_of p.0).claimed) (λ i. (seat i, summary i, reach i)) done.holds.reaches;
      };
      missed = subst (λ (s : Seat). 0 < (view_of s).misses) seat done.missed;
      one = ap (λ (s : Seat). (view_of s).seats) left.seat ∙ done.one;
    }

all_left : (job : Job) (board : EffectBoard) (old new : List Worker) → AreLeft old new → All (IsDone job board) old → All (IsDone job board) new
all_left job board old new left done = λ k d inside.
    let long = left.long in
    let there : k < length old = omega (arith, inside, long) in
    one_left job board (get_or old k d) (get_or new k d) (left.left k d there) (done k d there)

pub left_done : (job : Job) (board : EffectBoard) (old new : List Worker) → AreLeft old new → AreDone job board old → AreDone job board new
left_done job board old new left done =
    let long = left.long in
    let some = done.some in
    let last : (d : Worker) → IsLeft (get_or old (length new - 1) d) (get_or new (length new - 1) d) = λ d. left.left (length new - 1) d (omega (arith, some, long)) in
    record {
      some = omega (arith, some, long);
      done = all_left job board old new left done.done;
      later = λ i d inside none.
          let there : i + 1 < length old = omega (arith, inside, long) in
          let here : i < length old = omega (arith, there) in
          done.later i d there (sym (ap (λ (s : Seat). (view_of s).number) (left.left i d here).seat) ∙ none);
      number = λ d.
          ap (λ (s : Seat). (view_of s).number) (last d).seat
          ∙ ap (λ (n : ℕ). (view_of (get_or old (n - 1) d).seat).number) long ∙ done.number d;
      made = λ d.
          ap (λ (s : Seat). (view_of s).made) (last d).seat
          ∙ ap (λ (n : ℕ). (view_of (get_or old (n - 1) d).seat).made) long ∙ done.made d ∙ sym long;
    }
