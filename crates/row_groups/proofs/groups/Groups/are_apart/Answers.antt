use Rattle.std.proofs.Common.{ap, subst}
use Rattle.row_groups.specs.Groups.{Grouping}
use Rattle.row_groups.specs.Places.{AreApart}
use Rattle.row_groups.proofs.groups.Groups.are_apart.Goals as goal

pub returns : goal.returns
returns c =
    subst AreApart (ap (λ (groups : Grouping). groups.lists) c.self.view_is)
    (record { one_list = c.first.ensures.links.one_list; once = c.first.ensures.links.once })
