use Rattle.std.proofs.Common.{arith, sym, ◌∙◌}
use Rattle.std.proofs.lemmas.Bool.{false≢true}
use Rattle.sgl_lanes.proofs.LaneSets.{has_zero}
use Rattle.plan_executor.proofs.aiming.aim_rows.Goals as goal

pub loop-row-init : goal.loop-row-init
loop-row-init c = record {
  part = λ k own. absurd (false≢true (sym (has_zero k) ∙ own));
  done = λ k lt own. absurd (omega (arith, lt));
  rest = λ k le. has_zero k;
}
