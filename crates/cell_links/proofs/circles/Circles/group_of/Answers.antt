use Rattle.std.proofs.Common.{◌≡◌, ◌<◌, ℕ, length, sym, subst, get_or, arith}
use Rattle.std.specs.Prelude.{Option, None, IfSome}
use Rattle.std.proofs.lemmas.List.{get_or_read}
use Rattle.cell_links.specs.Links.{IsGroupOf}
use Rattle.cell_links.specs.Circles.{links_of}
use Rattle.cell_links.proofs.Steps.{group-stored, group_below-stored}
use Rattle.cell_links.proofs.circles.Circles.group_of.Goals as goal

pub returns-clause-group : goal.returns-clause-group
returns-clause-group c =
    let s = c.args.self.now in
    let read : c.index.result.now ≡ get_or s.groups.items c.args.row None =
    get_or_read s.groups.items c.args.row _ (omega (arith, c.requires.stored.groups_full)) c.index.ensures None in
    subst (IsGroupOf (links_of s) c.args.row) (sym read) (group-stored s.rows s.next.items s.previous.items s.groups.items c.requires.stored c.args.row)

pub returns-clause-inside : goal.returns-clause-inside
returns-clause-inside c =
    let s = c.args.self.now in
    let read : c.index.result.now ≡ get_or s.groups.items c.args.row None =
    get_or_read s.groups.items c.args.row _ (omega (arith, c.requires.stored.groups_full)) c.index.ensures None in
    subst (λ (o : Option ℕ). IfSome o (λ group. group < length (links_of s).lists)) (sym read)
    (group_below-stored s.rows s.next.items s.previous.items s.groups.items c.requires.stored c.args.row)
