use Rattle.std.proofs.Common.{ℕ, ◌<◌, ◌∙◌, ap, subst}
use Rattle.std.specs.Prelude.{All}
use Rattle.row_groups.specs.Groups.{Grouping}
use Rattle.row_groups.proofs.groups.Groups.rows.Goals as goal

pub returns-clause-within : goal.returns-clause-within
returns-clause-within c =
    let P : ℕ → Type 0 = λ n. All (λ row. row < n) c.of.result in
    subst P (c.self.invariant.rows ∙ ap (λ (groups : Grouping). groups.rows) c.self.view_is) c.of.ensures.within
