use Rattle.std.proofs.Common.{◌++◌, option_to_list, Option, ap, ◌∙◌, arith}
use Rattle.effect_board.specs.declared.view.View.{View}
use Rattle.effect_board.specs.declared.handles.Seat.{Seat}
use Rattle.board_tests.proofs.Workers.{parted}
use Rattle.board_tests.proofs.tests.boards.run.Goals as goal

pub gather-requires-clause-others : goal.gather-requires-clause-others
gather-requires-clause-others g c =
    (parted c.in_ok-board.board c.in_ok-seats.seats.items c.push.new.self.items c.work_all-seats.result.items c.pop.new.self.items c.seats_for.new.first c.unwrap-first.result
    c.in_ok-push.ensures.items (c.pop.ensures.items ∙ ap (λ (r : Option Seat). c.pop.new.self.items ++ option_to_list r) c.unwrap-first.ensures) c.work_all-seats.ensures.long
    c.work_all-seats.ensures.workers c.work_all-seats.ensures.same c.in_ok-seats.ensures.later).workers

pub gather-requires-clause-later : goal.gather-requires-clause-later
gather-requires-clause-later g c =
    (parted c.in_ok-board.board c.in_ok-seats.seats.items c.push.new.self.items c.work_all-seats.result.items c.pop.new.self.items c.seats_for.new.first c.unwrap-first.result
    c.in_ok-push.ensures.items (c.pop.ensures.items ∙ ap (λ (r : Option Seat). c.pop.new.self.items ++ option_to_list r) c.unwrap-first.ensures) c.work_all-seats.ensures.long
    c.work_all-seats.ensures.workers c.work_all-seats.ensures.same c.in_ok-seats.ensures.later).later

pub gather-requires-clause-first : goal.gather-requires-clause-first
gather-requires-clause-first g c =
    let parts = parted c.in_ok-board.board c.in_ok-seats.seats.items c.push.new.self.items c.work_all-seats.result.items c.pop.new.self.items c.seats_for.new.first c.unwrap-first.result
    c.in_ok-push.ensures.items (c.pop.ensures.items ∙ ap (λ (r : Option Seat). c.pop.new.self.items ++ option_to_list r) c.unwrap-first.ensures) c.work_all-seats.ensures.long
    c.work_all-seats.ensures.workers c.work_all-seats.ensures.same c.in_ok-seats.ensures.later in
    let made = c.in_ok-seats.ensures.made in
    let same = parts.same.made in
    let one = parts.worker.one in
    let long = parts.long in
    record {
      of = parts.worker.of;
      first = parts.same.number ∙ ap (λ (v : View). v.number) c.in_ok-seats.ensures.first;
      all = omega (arith, made, same, one, long, c.pop.new.self.ok, c.in_ok-seats.seats.ok);
    }
