-- The lanes before the next are merged and told, and the set has those behind them.
use Rattle.std.proofs.Common.{◌≡◌, ◌<◌, ◌≤◌, ◌-◌, ◌++◌, ℕ, length, pos, slice_index_or, true}
use Rattle.sgl_values.specs.Amounts.{is_amount, plain_amount}
use Rattle.effect_board.specs.Lanes.{gives_from, is_in}
use Rattle.effect_board.specs.Views.{gives_in}
use Rattle.effect_board.proofs.LaneSets.{IsRest}
use Rattle.effect_board.proofs.Own.{AreOwn}
use Rattle.effect_board.proofs.own_lanes.merge_lanes.Given as goal

abbrev pub decreases-loop-left : goal.decreases-loop-left
decreases-loop-left l = 64 - l.next

abbrev pub invariant-loop-left : goal.invariant-loop-left
invariant-loop-left l = record {
  length : length l.own ≡ length l.initial.own;
  next : l.next ≤ 64;
  rest : IsRest l.lanes l.left l.next;
  merged : AreOwn l.tags l.own l.told.numbers;
  told : gives_in l.told.numbers ≡ gives_in l.initial.told.numbers ++ gives_from l.tags l.attr l.lanes l.rows l.numbers 0 l.next;
  fit : (k : ℕ) → k < l.next → is_in l.lanes k ≡ true → is_amount (plain_amount (slice_index_or l.numbers k (pos 0))) ≡ true;
}
