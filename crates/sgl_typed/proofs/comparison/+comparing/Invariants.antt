use Rattle.std.proofs.Common.{◌≡◌, take, length}
use Rattle.sgl_typed.proofs.comparison.+comparing.Given as goal

abbrev pub invariant-are_all_same-loop-i : goal.invariant-are_all_same-loop-i
invariant-are_all_same-loop-i l = record {
  same : take l.i l.a ≡ take l.i l.b;
  long : length l.a ≡ length l.b;
}
