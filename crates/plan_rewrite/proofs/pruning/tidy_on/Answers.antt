use Rattle.std.proofs.Common.{sym, ◌∙◌}
use Rattle.plan_rewrite.specs.declared.task.Task.TheVariants.{Lower, Choose}
use Rattle.plan_rewrite.proofs.Thinning.{tidies}
use Rattle.plan_rewrite.proofs.pruning.tidy_on.Goals as goal

pub returns-in_ok-lower_on-in-Lower : goal.returns-in_ok-lower_on-in-Lower
returns-in_ok-lower_on-in-Lower c = tidies c.args.grove.now c.lower_on.new.grove c.args.node (Lower c.in-Lower.slot) (sym c.in-Lower.is ∙ c.node_task.ensures) c.in_ok-lower_on-in-Lower.ensures

pub returns-in_ok-choose_on-in-Choose : goal.returns-in_ok-choose_on-in-Choose
returns-in_ok-choose_on-in-Choose c = tidies c.args.grove.now c.choose_on.new.grove c.args.node (Choose c.in-Choose.truth) (sym c.in-Choose.is ∙ c.node_task.ensures) c.in_ok-choose_on-in-Choose.ensures
