use Rattle.std.proofs.Common.{arith, ap, reverse, ◌∙◌}
use Rattle.plan_rewrite.specs.Bare.{without}
use Rattle.plan_rewrite.proofs.Turned.{remove_turned}
use Rattle.plan_rewrite.proofs.stack.Stack.cut.Goals as goal

pub returns : goal.returns
returns g c =
    ap reverse (c.drop-drain.ensures.items ∙ c.drain.ensures.kept)
    ∙ remove_turned c.self.inside.items.items c.in_ok-start.start c.in_ok-ends.ends c.args.from c.args.count (omega (arith, c.in_ok-ends.ensures, c.len.ensures)) c.in_ok-start.ensures
    ∙ ap (without c.args.from c.args.count) c.self.view_is
