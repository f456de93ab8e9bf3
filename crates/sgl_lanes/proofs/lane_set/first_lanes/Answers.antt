use Rattle.std.proofs.Common.{ap, sym, ◌∙◌, nat_lt}
use Rattle.sgl_lanes.proofs.LaneSets.{has_first, has_none}
use Rattle.sgl_lanes.proofs.lane_set.first_lanes.Goals as goal

pub returns-then-count-eq0 : goal.returns-then-count-eq0
returns-then-count-eq0 c = λ k. has_none k ∙ ap (nat_lt k) (sym c.if-count-eq0.true)

pub returns-else-count-eq0 : goal.returns-else-count-eq0
returns-else-count-eq0 c = λ k. has_first c.args.count k c.requires
