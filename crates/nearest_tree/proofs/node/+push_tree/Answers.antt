-- The nodes of the points before the middle one, its own, and those of the points behind it.
use Rattle.std.proofs.Common.{◌≡◌, ◌<◌, ◌/◌, length, refl, rules}
use Rattle.std.proofs.lemmas.Result.{on_ok_weaker}
use Rattle.nearest_tree.proofs.Planting.{planted, planted-none}
use Rattle.nearest_tree.proofs.node.+push_tree.Goals as goal

pub returns-then-is_empty : goal.returns-then-is_empty
returns-then-is_empty t c =
    let none : length c.args.points.now ≡ 0 = search rules in
    planted-none c.args.nodes.now.items c.args.points.now none

pub returns : goal.returns
returns t c =
    let points = c.args.points.now in
    let some : 0 < length points = search rules in
    on_ok_weaker c.push_tree-2.result
    (λ behind. planted c.args.nodes.now.items c.push_tree.new.nodes.items c.push.new.self.items c.push_tree-2.new.nodes.items points (length points / 2) _ some refl
    c.in_ok-push_tree.ensures c.in_ok-push.ensures.items c.index-points-middle.is c.of.ensures behind)
    c.push_tree-2.ensures
