use Rattle.std.proofs.Common.{◌≡◌, [], ℕ, Option, ap, subst, sym, ◌∙◌}
use Rattle.std.specs.Prelude.{MatchOption}
use Rattle.row_groups.specs.Groups.{number_of}
use Rattle.row_groups.specs.Listed.{list_if}
use Rattle.group_trees.specs.Points.{Planted}
use Rattle.group_trees.proofs.trees.GroupTrees.tree_under.Goals as goal

pub returns-in-Some : goal.returns-in-Some
returns-in-Some c =
    let lists = c.args.self.now.lists in
    let P : Option ℕ → Type 0 = λ o. MatchOption c.tree_of.result (list_if lists o ≡ []) (λ tree. tree.now ≡ list_if lists o) in
    subst P (sym c.in-Some.is ∙ c.number.ensures.value ∙ ap (λ (trees : Planted). number_of trees.groups c.args.key.now) c.self.view_is) c.tree_of.ensures
