-- Factors with their ends.
use Rattle.std.specs.Prelude.{◌≡◌, ◌<◌, ◌≤◌, ◌*◌}
use Rattle.sgl_lanes.specs.declared.factor.Factor.{Factor}

-- a factor from 1 on and below 2^30, whose product with the end is within 2^30
pub record IsFactor (factor : Factor) : Type 0 where
  pub from : 0 < factor.number
  pub below : factor.number < 1073741824
  pub short : factor.end ≤ 1073741824
  pub product : factor.most ≡ factor.end * factor.number
  pub small : factor.most ≤ 1073741824
