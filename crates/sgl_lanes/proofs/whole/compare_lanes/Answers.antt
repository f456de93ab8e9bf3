-- Each lane has what the test says of its numbers.
use Rattle.std.proofs.Common.{rules}
use Rattle.sgl_lanes.proofs.Held.{kind-held}
use Rattle.sgl_lanes.proofs.whole.compare_lanes.Goals as goal

pub returns-in-Eq : goal.returns-in-Eq
returns-in-Eq g c place k below inside v w left right = kind-held _ _ _ _ _ c.kind_if.ensures (λ told. let h = c.combine.ensures told k below inside in search rules)

pub returns-in-Ne : goal.returns-in-Ne
returns-in-Ne g c place k below inside v w left right = kind-held _ _ _ _ _ c.kind_if-in-Ne.ensures (λ told. let h = c.combine-in-Ne.ensures told k below inside in search rules)

pub returns-in-Lt : goal.returns-in-Lt
returns-in-Lt g c place k below inside v w left right = kind-held _ _ _ _ _ c.kind_if-in-Lt.ensures (λ told. let h = c.combine-in-Lt.ensures told k below inside in search rules)

pub returns-in-Le : goal.returns-in-Le
returns-in-Le g c place k below inside v w left right = kind-held _ _ _ _ _ c.kind_if-in-Le.ensures (λ told. let h = c.combine-in-Le.ensures told k below inside in search rules)

pub returns-in-Gt : goal.returns-in-Gt
returns-in-Gt g c place k below inside v w left right = kind-held _ _ _ _ _ c.kind_if-in-Gt.ensures (λ told. let h = c.combine-in-Gt.ensures told k below inside in search rules)

pub returns-in-Ge : goal.returns-in-Ge
returns-in-Ge g c place k below inside v w left right = kind-held _ _ _ _ _ c.kind_if-in-Ge.ensures (λ told. let h = c.combine-in-Ge.ensures told k below inside in search rules)
