use Rattle.std.proofs.Common.{◌≡◌, ◌+◌, Some, ap, ◌∙◌, arith}
use Rattle.std.proofs.lemmas.List.Elements.{All-pop}
use Rattle.effect_board.specs.declared.view.View.{View}
use Rattle.effect_board.specs.Handles.{view_of}
use Rattle.effect_board.specs.Views.{joining}
use Rattle.board_tests.specs.Workers.{IsWorker, IsLater}
use Rattle.board_tests.proofs.tests.boards.gather.Goals as goal

pub loop-seat-preserved : goal.loop-seat-preserved
loop-seat-preserved c =
    let board = c.args.board.now in
    let seat = c.in-Some.seat in
    let old = c.loop-seat.invariant in
    let popped = All-pop (IsWorker board) c.loop-seat.seats.items c.pop.new.self.items (Some seat) c.in-Some.ensures.items old.others in
    let into : View = view_of c.loop-seat.first in
    let now : view_of c.join.new.into ≡ joining into (view_of seat) = c.join.ensures.view in
    let length = c.in-Some.ensures.len in
    let all = old.first.all in
    let one = popped.1.one in
    let seats : (view_of c.join.new.into).seats ≡ into.seats + (view_of seat).seats = ap (λ (v : View). v.seats) now in
    let made : (view_of c.join.new.into).made ≡ into.made = ap (λ (v : View). v.made) now in
    record {
      others = popped.0;
      later = (All-pop IsLater c.loop-seat.seats.items c.pop.new.self.items (Some seat) c.in-Some.ensures.items old.later).0;
      first = record {
        of = c.join.ensures.of;
        first = ap (λ (v : View). v.number) now ∙ old.first.first;
        all = omega (arith, seats, made, all, one, length);
      };
    }
