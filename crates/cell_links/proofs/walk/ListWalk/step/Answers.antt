use Rattle.std.proofs.Common.{◌≡◌, ◌∙◌, Some, arith, sym}
use Rattle.std.specs.Prelude.{slice_get}
use Rattle.std.proofs.lemmas.Option.{slice_get_within}
use Rattle.cell_links.specs.Links.{rows_of}
use Rattle.cell_links.proofs.Walking.{few_linked, left_at}
use Rattle.cell_links.proofs.walk.ListWalk.step.Goals as goal

pub overflow_add-self : goal.overflow_add-self
overflow_add-self c =
    let walk = c.args.self.now in
    let rows = rows_of walk.links.now walk.list in
    let at : slice_get rows walk.passed ≡ Some c.in_ok-row.row = sym walk.at ∙ c.in_ok-row.was in
    omega (arith, slice_get_within rows walk.passed c.in_ok-row.row at, few_linked walk.links.now walk.list c.after-self.ensures.links)

pub returns : goal.returns
returns c =
    let walk = c.args.self.now in
    let rows = rows_of walk.links.now walk.list in
    let at : slice_get rows walk.passed ≡ Some c.in_ok-row.row = sym walk.at ∙ c.in_ok-row.was in
    left_at rows walk.passed c.in_ok-row.row at
