use Rattle.std.proofs.Common.{◌∙◌, ap}
use Rattle.cell_links.specs.Links.{Links, rows_of, without_row}
use Rattle.cell_links.proofs.Steps.{others_stay}
use Rattle.cell_links.proofs.links.CellLinks.unlink.Goals as goal

pub returns-clause-others : goal.returns-clause-others
returns-clause-others c group none =
    ap (λ (links : Links). rows_of links group) c.unlink.ensures.links
    ∙ ap (λ (links : Links). rows_of (without_row links c.args.row) group) c.self.view_is
    ∙ others_stay c.args.self.now c.args.row group none
