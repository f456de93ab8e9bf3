use Rattle.std.proofs.Common.{◌≡◌, ◌<◌, ℕ, List, length, slice_index_or}
use Rattle.sgl_values.specs.Amounts.{Amount}
use Rattle.sgl_values.specs.Cells.{combination}
use Rattle.sgl_lanes.specs.Lanes.{lane_of}
use Rattle.effect_combine.specs.Standing.{StandsFor}
use Rattle.tick_postprocess.specs.Blocks.{IsPut}
use Rattle.tick_postprocess.proofs.cells.put_each.Given as goal

abbrev pub invariant-loop-lane : goal.invariant-loop-lane
invariant-loop-lane l = record {
  full : length l.out ≡ 64;
  put : (k : ℕ) (amounts : List Amount) → k < l.lane → StandsFor l.tag (slice_index_or l.words k 0) amounts → IsPut (combination l.tag l.init amounts) (lane_of l.out k) l.exact;
}
