use Rattle.std.proofs.Common.{◌∙◌, arith, rules}
use Rattle.plan_executor.proofs.Counts.{count_members, few_members}
use Rattle.plan_executor.proofs.reach.count_rows.Goals as goal

pub returns-clause-value : goal.returns-clause-value
returns-clause-value c = c.from.ensures ∙ count_members c.args.mask (search rules)

pub returns-clause-few : goal.returns-clause-few
returns-clause-few c = omega (arith, c.from.ensures ∙ count_members c.args.mask (search rules), few_members c.args.mask)
