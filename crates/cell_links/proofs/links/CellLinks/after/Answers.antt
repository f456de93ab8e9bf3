use Rattle.cell_links.proofs.Steps.{links_stored}
use Rattle.cell_links.proofs.links.CellLinks.after.Goals as goal

pub returns-clause-links : goal.returns-clause-links
returns-clause-links c = rw (← c.self.view_is) (links_stored c.self.inside.circles c.self.invariant)
