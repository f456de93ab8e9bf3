-- The lanes before the next have given, and the set has those behind them.
use Rattle.std.proofs.Common.{◌≡◌, ◌<◌, ◌≤◌, ◌-◌, ℕ, length, pos, slice_index_or, true}
use Rattle.sgl_values.specs.Amounts.{is_amount, plain_amount}
use Rattle.effect_board.specs.Handles.{view_of, tags_of, IsSeatOf}
use Rattle.effect_board.specs.Lanes.{gives_from, is_in}
use Rattle.effect_board.specs.Views.{giving_all}
use Rattle.effect_board.proofs.LaneSets.{IsRest}
use Rattle.effect_board.proofs.handles.EffectBoard.share_lanes.Given as goal

abbrev pub decreases-loop-left : goal.decreases-loop-left
decreases-loop-left l = 64 - l.next

abbrev pub invariant-loop-left : goal.invariant-loop-left
invariant-loop-left l = record {
  of : IsSeatOf l.self l.seat;
  none_own : length l.seat.own.items ≡ 0;
  next : l.next ≤ 64;
  rest : IsRest l.lanes l.left l.next;
  view : view_of l.seat ≡ giving_all (view_of l.initial.seat) (gives_from (tags_of l.self) l.attr l.lanes l.rows l.numbers 0 l.next);
  fit : (k : ℕ) → k < l.next → is_in l.lanes k ≡ true → is_amount (plain_amount (slice_index_or l.numbers k (pos 0))) ≡ true;
}
