use Rattle.std.proofs.Common.{◌≡◌, map, take}
use Rattle.effect_board.specs.Views.{giving_all, give_of_cell}
use Rattle.effect_board.specs.Handles.{view_of, tags_of, IsSeatOf}
use Rattle.effect_board.proofs.handles.EffectBoard.deposit.Given as goal

-- the cells so far are given
abbrev pub invariant-loop-cell : goal.invariant-loop-cell
invariant-loop-cell l = record {
  of : IsSeatOf l.self l.seat;
  view : view_of l.seat ≡ giving_all (view_of l.initial.seat) (map (give_of_cell (tags_of l.self)) (take l.cell-index l.cell-items));
}
