-- The row is tied behind the last of the circle and before the node of the group.
use Rattle.std.proofs.Common.{◌≡◌, ◌+◌, get_or, set, Some, arith}
use Rattle.std.proofs.lemmas.List.{get_or_read}
use Rattle.cell_links.specs.Links.{with_row}
use Rattle.cell_links.specs.Circles.{links_of}
use Rattle.cell_links.proofs.Steps.{Leaves, arrays, last_inside, link_ties}
use Rattle.cell_links.proofs.circles.Circles.link.Goals as goal
use Rattle.cell_links.proofs.circles.Circles.link.Goals.{After-index-last, After-tie-2}

read : (c : After-index-last) → c.index-last.result.now ≡ get_or c.args.self.now.previous.items (c.args.self.now.rows + c.args.group) 0
read c =
    let s = c.args.self.now in
    get_or_read s.previous.items (s.rows + c.args.group) _ (omega (arith, c.requires.stored.previous_full)) c.index-last.ensures 0

tied : (c : After-tie-2) → c.index-last.result.now ≡ get_or c.args.self.now.previous.items (c.args.self.now.rows + c.args.group) 0 → let s = c.tie-2.new.self in
    Leaves (arrays s.rows s.next.items s.previous.items (set s.groups.items c.args.row (Some c.args.group))) (with_row (links_of c.args.self.now) c.args.row c.args.group)
tied c is =
    link_ties c.args.self.now c.tie.new.self c.tie-2.new.self c.args.row c.args.group c.index-last.result.now c.requires.stored c.requires.row c.requires.group c.requires.free is
    c.tie.ensures c.tie-2.ensures

pub tie-requires-clause-before : goal.tie-requires-clause-before
tie-requires-clause-before c =
    let s = c.args.self.now in
    last_inside s.rows s.next.items s.previous.items s.groups.items c.requires.stored c.args.row c.args.group _ c.requires.row c.requires.group c.requires.free
    (read (goal.at.tie-requires-clause-before c).After-index-last)

pub returns-clause-stored : goal.returns-clause-stored
returns-clause-stored c = (tied (goal.at.returns-clause-stored c).After-tie-2 (read (goal.at.returns-clause-stored c).After-index-last)).holds

pub returns-clause-links : goal.returns-clause-links
returns-clause-links c = (tied (goal.at.returns-clause-links c).After-tie-2 (read (goal.at.returns-clause-links c).After-index-last)).links_are
