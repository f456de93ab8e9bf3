use Rattle.std.proofs.Common.{◌≡◌, [], ℕ, Option, subst, sym, ◌∙◌}
use Rattle.std.specs.Prelude.{MatchOption}
use Rattle.row_groups.specs.Listed.{list_if}
use Rattle.group_boxes.proofs.boxes.Boxes.index_under.Goals as goal

pub returns-in-Some : goal.returns-in-Some
returns-in-Some c =
    let lists = c.args.self.now.lists in
    let P : Option ℕ → Type 0 = λ o. MatchOption c.index_in.result (list_if lists o ≡ []) (λ index. index.now ≡ list_if lists o) in
    subst P (sym c.in-Some.is ∙ c.number.ensures.value) c.index_in.ensures
