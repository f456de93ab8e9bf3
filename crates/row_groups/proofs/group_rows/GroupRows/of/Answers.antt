use Rattle.std.proofs.Common.{◌<◌, ◌≤◌, ℕ, List, length, subst, sym}
use Rattle.std.specs.Prelude.{All}
use Rattle.cell_links.proofs.Walking.{few_linked}
use Rattle.row_groups.proofs.group_rows.GroupRows.of.Goals as goal

pub returns-clause-within : goal.returns-clause-within
returns-clause-within c = subst (λ (rows : List ℕ). All (λ row. row < c.args.links.now.rows) rows) (sym c.new.ensures.rows) (c.new.ensures.links.within c.args.group)

pub returns-clause-few : goal.returns-clause-few
returns-clause-few c = subst (λ (rows : List ℕ). length rows ≤ 65536) (sym c.new.ensures.rows) (few_linked c.args.links.now c.args.group c.new.ensures.links)
