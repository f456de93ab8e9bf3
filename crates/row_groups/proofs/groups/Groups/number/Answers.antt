use Rattle.std.proofs.Common.{◌∙◌, ap, arith, length, sym}
use Rattle.row_groups.specs.Groups.{Grouping}
use Rattle.row_groups.proofs.Holding.{if_below}
use Rattle.row_groups.proofs.groups.Groups.number.Goals as goal

pub returns-clause-inside : goal.returns-clause-inside
returns-clause-inside c =
    if_below c.copied.result (length c.args.self.now.lists) (λ group told.
    let below = c.self.invariant.below c.args.key.now group (sym c.get.ensures.value ∙ sym c.copied.ensures ∙ told) in
    omega (arith, below, ap (λ (groups : Grouping). length groups.lists) c.self.view_is))
