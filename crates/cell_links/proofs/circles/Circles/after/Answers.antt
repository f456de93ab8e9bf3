use Rattle.std.proofs.Common.{◌≡◌, ◌+◌, ◌∙◌, ℕ, get_or, ap, arith}
use Rattle.std.proofs.lemmas.List.{get_or_read}
use Rattle.cell_links.proofs.Paths.{row_at}
use Rattle.cell_links.proofs.Steps.{row_inside, place_of, after-stored, linked_at}
use Rattle.cell_links.proofs.circles.Circles.after.Goals as goal

pub index-requires : goal.index-requires
index-requires c =
    let s = c.args.self.now in
    let inside = row_inside s.rows s.next.items s.previous.items s.groups.items c.requires.stored c.args.row c.requires.linked in
    omega (arith, inside, c.requires.stored.next_full)

pub returns-clause-value : goal.returns-clause-value
returns-clause-value c group place there =
    let s = c.args.self.now in
    let inside = row_inside s.rows s.next.items s.previous.items s.groups.items c.requires.stored c.args.row c.requires.linked in
    let read : c.index.result.now ≡ get_or s.next.items c.args.row 0 =
    get_or_read s.next.items c.args.row _ (omega (arith, inside, c.requires.stored.next_full)) c.index.ensures 0 in
    c.row_of.ensures.value ∙ ap (λ (node : ℕ). row_at node s.rows) read
    ∙ after-stored s.rows s.next.items s.previous.items s.groups.items c.requires.stored c.args.row c.requires.linked group place there

pub returns-clause-linked : goal.returns-clause-linked
returns-clause-linked c =
    let s = c.args.self.now in
    let at = place_of s.rows s.next.items s.previous.items s.groups.items c.requires.stored c.args.row c.requires.linked in
    linked_at s.rows s.next.items s.previous.items s.groups.items c.requires.stored c.requires.linked.0 (at.0 + 1) c.row_of.result
    (returns-clause-value c c.requires.linked.0 at.0 at.1)
