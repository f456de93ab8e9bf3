use Rattle.std.proofs.Common.{reverse, subst}
use Rattle.plan_rewrite.specs.Descents.{Glances}
use Rattle.plan_rewrite.proofs.Glancing.{falls_stay}
use Rattle.plan_rewrite.proofs.glance.place_into.Goals as goal

pub returns-in-Stays : goal.returns-in-Stays
returns-in-Stays c =
    falls_stay (reverse c.args.nodes.now) c.args.count c.args.slot (subst (Glances (reverse c.args.nodes.now) c.args.count c.args.slot) c.in-Stays.is c.in_ok-glance_into.ensures)
