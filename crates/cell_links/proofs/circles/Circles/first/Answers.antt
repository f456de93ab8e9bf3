use Rattle.std.proofs.Common.{◌≡◌, ◌+◌, ◌∙◌, ℕ, get_or, ap, arith}
use Rattle.std.proofs.lemmas.List.{get_or_read}
use Rattle.cell_links.proofs.Paths.{row_at}
use Rattle.cell_links.proofs.Steps.{first-stored, linked_at}
use Rattle.cell_links.proofs.circles.Circles.first.Goals as goal

pub returns-clause-value : goal.returns-clause-value
returns-clause-value c =
    let s = c.args.self.now in
    let read : c.index.result.now ≡ get_or s.next.items (s.rows + c.args.group) 0 =
    get_or_read s.next.items (s.rows + c.args.group) _ (omega (arith, c.requires.stored.next_full)) c.index.ensures 0 in
    c.row_of.ensures.value ∙ ap (λ (node : ℕ). row_at node s.rows) read
    ∙ first-stored s.rows s.next.items s.previous.items s.groups.items c.requires.stored c.args.group c.requires.group

pub returns-clause-linked : goal.returns-clause-linked
returns-clause-linked c =
    let s = c.args.self.now in
    linked_at s.rows s.next.items s.previous.items s.groups.items c.requires.stored c.args.group 0 c.row_of.result (returns-clause-value c)
