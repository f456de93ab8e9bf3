-- What holds of a seat and a sink holds where a branch leaves the same ones.
use Rattle.std.proofs.Common.{◌≡◌, List, subst, sym}
use Rattle.sgl_values.specs.declared.item.Item.{Item}
use Rattle.effect_board.specs.declared.handles.EffectBoard.{EffectBoard}
use Rattle.effect_board.specs.declared.handles.Seat.{Seat}
use Rattle.task_scratch.specs.declared.sink.Sink.{Sink}
use Rattle.plan_executor.specs.Sinking.{Bounds, State, state_of, IsReady, Pushes}

pub ready_as : {board : EffectBoard} {seat same_seat : Seat} {sink same_sink : Sink} → same_seat ≡ seat → same_sink ≡ sink
    → IsReady board seat sink.batch → IsReady board same_seat same_sink.batch
ready_as {board = board} seat_is sink_is ready =
    subst (λ (s : Seat × Sink). IsReady board s.0 s.1.batch) (λ i. (sym seat_is i, sym sink_is i)) ready

pub pushes_as : {bounds : Bounds} {now : State} {seat same_seat : Seat} {sink same_sink : Sink} {items : List Item} → same_seat ≡ seat → same_sink ≡ sink
    → Pushes bounds now (state_of sink seat) items → Pushes bounds now (state_of same_sink same_seat) items
pushes_as {bounds = bounds} {now = now} {items = items} seat_is sink_is pushes =
    subst (λ (s : Seat × Sink). Pushes bounds now (state_of s.1 s.0) items) (λ i. (sym seat_is i, sym sink_is i)) pushes
