use Rattle.std.proofs.Common.{◌≡◌, ◌+◌, ◌<◌, ◌≤◌, ℕ, get_or, length}
use Rattle.std.specs.Fork.{ChangesAt}
use Rattle.thread_share.proofs.each.in_turn.Given as goal

abbrev pub invariant-loop-k : goal.invariant-loop-k
invariant-loop-k g l = record {
  len : length l.s ≡ length l.initial.s;
  later : (j : ℕ) (d : g.row.T.Denot) → l.k ≤ j → get_or l.s j d ≡ get_or l.initial.s j d;
  done : (j : ℕ) (d : g.row.T.Denot) → j < l.k → ChangesAt g.F.Fn l.f (l.base + j) (get_or l.initial.s j d) (get_or l.s j d);
}
