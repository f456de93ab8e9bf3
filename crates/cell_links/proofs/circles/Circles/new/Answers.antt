use Rattle.cell_links.proofs.Steps.{Arrays, arrays, leaves-new}
use Rattle.cell_links.proofs.circles.Circles.new.Goals as goal

pub returns : goal.returns
returns c =
    let b : Arrays = arrays c.args.rows c.in_ok-alone.field-0.items c.in_ok-alone-2.field-0.items c.in_ok-ungrouped.field-0.items in
    let made = leaves-new c.args.rows c.args.groups b c.requires.rows c.requires.groups (λ k. (c.args.rows, c.in_ok-alone.ensures k, c.in_ok-alone-2.ensures k, c.in_ok-ungrouped.ensures k)) in
    record { stored = made.holds; empty = made.links_are }
