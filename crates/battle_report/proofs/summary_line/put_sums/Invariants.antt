use Rattle.std.proofs.Common.{◌≡◌, pos, get_or, take, EachIndex}
use Rattle.sgl_typed.specs.declared.script.Attr.TheVariants.{Const}
use Rattle.sgl_typed.specs.Aggregate.{sum_of}
use Rattle.battle_report.proofs.summary_line.put_sums.Given as goal

abbrev pub invariant-loop-row : goal.invariant-loop-row
invariant-loop-row l = EachIndex l.sums (λ attr. get_or l.sums attr (pos 0) ≡ sum_of (Const attr) (take l.row l.world.world.rows))
