use Rattle.std.proofs.Common.{arith, ap, reverse, ◌∙◌}
use Rattle.plan_rewrite.specs.Bare.{inserted}
use Rattle.plan_rewrite.proofs.Turned.{insert_turned}
use Rattle.plan_rewrite.proofs.stack.Stack.sink.Goals as goal

pub returns : goal.returns
returns g c =
    ap reverse c.in_ok-insert.ensures.items
    ∙ insert_turned c.self.inside.items.items c.in_ok-at.at c.args.place c.args.item (omega (arith, c.in_ok-at.ensures, c.len.ensures))
    ∙ ap (inserted c.args.place c.args.item) c.self.view_is
