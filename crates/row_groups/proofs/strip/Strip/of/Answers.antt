use Rattle.std.proofs.Common.{sym, arith}
use Rattle.row_groups.proofs.Stripping.{nothing_held}
use Rattle.row_groups.proofs.strip.Strip.of.Goals as goal

pub returns-else-low-end : goal.returns-else-low-end
returns-else-low-end c = sym (nothing_held c.args.low c.args.end c.args.rows.now c.args.ranks.now (omega (arith, c.if-low-end.false)))
