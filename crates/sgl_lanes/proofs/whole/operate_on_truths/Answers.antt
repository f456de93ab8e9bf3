-- Each lane has what the operation makes of its truths.
use Rattle.std.proofs.Common.{arith}
use Rattle.std.proofs.lemmas.Grind.{common_steps}
use Rattle.sgl_lanes.proofs.Held.{kind-held}
use Rattle.sgl_lanes.proofs.whole.operate_on_truths.Goals as goal

pub returns-in-And : goal.returns-in-And
returns-in-And g c place k below inside v w left right = kind-held _ _ _ _ _ c.kind_if.ensures (λ told. let h = c.combine.ensures told k below inside in grind (arith, common_steps))

pub returns-in-Or : goal.returns-in-Or
returns-in-Or g c place k below inside v w left right = kind-held _ _ _ _ _ c.kind_if-in-Or.ensures (λ told. let h = c.combine-in-Or.ensures told k below inside in grind (arith, common_steps))
