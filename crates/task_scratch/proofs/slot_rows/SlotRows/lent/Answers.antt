use Rattle.std.proofs.Common.{subst, arith}
use Rattle.std.proofs.lemmas.Option.{IfSome_then}
use Rattle.sgl_values.specs.declared.fault.Val.{Val}
use Rattle.sgl_lanes.specs.Lanes.{lane_of, Holds}
use Rattle.sgl_lanes.specs.declared.kind.Lanes.TheVariants.{Numbers}
use Rattle.task_scratch.proofs.Columns.{slot_is}
use Rattle.task_scratch.proofs.slot_rows.SlotRows.lent.Goals as goal

pub returns-then-at-len : goal.returns-then-at-len
returns-then-at-len c = IfSome_then c.lent.result c.lent.ensures (λ numbers holds k below inside.
    subst (λ (v : Val). Holds Numbers (lane_of numbers.now k) v) (slot_is _ _ k c.args.slot _ c.self.view_is below (omega arith) c.index.ensures) (holds k below inside))
