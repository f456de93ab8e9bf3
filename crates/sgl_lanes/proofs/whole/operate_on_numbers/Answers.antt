-- Each lane has what the operation gives of its numbers. A comparison is one of the operations.
use Rattle.std.proofs.Common.{arith}
use Rattle.std.proofs.lemmas.Grind.{common_steps}
use Rattle.sgl_lanes.proofs.Held.{kind-held}
use Rattle.sgl_lanes.proofs.whole.operate_on_numbers.Goals as goal

pub returns-in-Add : goal.returns-in-Add
returns-in-Add g c place k below inside v w left right = kind-held _ _ _ _ _ c.kind_if.ensures (λ told. let h = c.add_each.ensures told k below inside in grind (arith, common_steps))

pub returns-in-Sub : goal.returns-in-Sub
returns-in-Sub g c place k below inside v w left right = kind-held _ _ _ _ _ c.kind_if-in-Sub.ensures (λ told. let h = c.subtract_each.ensures told k below inside in grind (arith, common_steps))

pub returns-in-Cmp : goal.returns-in-Cmp
returns-in-Cmp g c place k below inside v w left right = rw c.in-Cmp.is (c.compare_lanes.ensures place k below inside v w left right)
