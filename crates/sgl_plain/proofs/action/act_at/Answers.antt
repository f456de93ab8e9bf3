use Rattle.std.proofs.Common.{sym, ◌∙◌}
use Rattle.sgl_plain.proofs.Adding.{Leads-over}
use Rattle.sgl_plain.proofs.action.act_at.Goals as goal

pub returns-then-is_over : goal.returns-then-is_over
returns-then-is_over c = Leads-over (sym c.is_over.ensures ∙ c.if-is_over.true) c.loop-write.invariant
