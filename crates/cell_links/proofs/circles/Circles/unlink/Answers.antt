-- The nodes on both sides of the row are tied to one another.
use Rattle.std.proofs.Common.{◌≡◌, ◌<◌, ℕ, get_or, set, None, length, subst, sym, ap, arith}
use Rattle.std.proofs.lemmas.List.{get_or_read}
use Rattle.cell_links.specs.Links.{IsLinked, without_row}
use Rattle.cell_links.specs.Circles.{IsStored, links_of}
use Rattle.cell_links.specs.declared.circles.Circles.{Circles}
use Rattle.cell_links.proofs.Steps.{Leaves, arrays, row_inside, before_inside, after_inside, unlink_ties}
use Rattle.cell_links.proofs.circles.Circles.unlink.Goals as goal
use Rattle.cell_links.proofs.circles.Circles.unlink.Goals.{After-index-after, After-tie}

inside : (s : Circles) (row : ℕ) → IsStored s → IsLinked (links_of s) row → row < s.rows
inside s row stored linked = row_inside s.rows s.next.items s.previous.items s.groups.items stored row linked

-- the nodes that are read
reads : (c : After-index-after) → (c.index-before.result.now ≡ get_or c.args.self.now.previous.items c.args.row 0) × (c.index-after.result.now ≡ get_or c.args.self.now.next.items c.args.row 0)
reads c =
    let s = c.args.self.now in
    let below = inside s c.args.row c.requires.stored c.requires.linked in (
      get_or_read s.previous.items c.args.row _ (omega (arith, below, c.requires.stored.previous_full)) c.index-before.ensures 0,
      get_or_read s.next.items c.args.row _ (omega (arith, below, c.requires.stored.next_full)) c.index-after.ensures 0,
    )

tied : (c : After-tie) → (c.index-before.result.now ≡ get_or c.args.self.now.previous.items c.args.row 0) × (c.index-after.result.now ≡ get_or c.args.self.now.next.items c.args.row 0)
    → let s = c.tie.new.self in
    Leaves (arrays s.rows s.next.items s.previous.items (set s.groups.items c.args.row None)) (without_row (links_of c.args.self.now) c.args.row)
tied c read =
    unlink_ties c.args.self.now c.tie.new.self c.args.row c.index-before.result.now c.index-after.result.now c.requires.stored c.requires.linked read.0 read.1 c.tie.ensures

pub index-before-requires : goal.index-before-requires
index-before-requires c = omega (arith, inside c.args.self.now c.args.row c.requires.stored c.requires.linked, c.requires.stored.previous_full)

pub index-after-requires : goal.index-after-requires
index-after-requires c = omega (arith, inside c.args.self.now c.args.row c.requires.stored c.requires.linked, c.requires.stored.next_full)

pub tie-requires-clause-before : goal.tie-requires-clause-before
tie-requires-clause-before c =
    let s = c.args.self.now in
    subst (λ (n : ℕ). n < length s.next.items) (sym (reads (goal.at.tie-requires-clause-before c).After-index-after).0)
    (before_inside s.rows s.next.items s.previous.items s.groups.items c.requires.stored c.args.row c.requires.linked)

pub tie-requires-clause-after : goal.tie-requires-clause-after
tie-requires-clause-after c =
    let s = c.args.self.now in
    subst (λ (n : ℕ). n < length s.previous.items) (sym (reads (goal.at.tie-requires-clause-after c).After-index-after).1)
    (after_inside s.rows s.next.items s.previous.items s.groups.items c.requires.stored c.args.row c.requires.linked)

pub index_mut-requires : goal.index_mut-requires
index_mut-requires c =
    let s = c.args.self.now in
    let same : length c.tie.new.self.groups.items ≡ length s.groups.items = ap length c.tie.ensures.groups in
    omega (arith, inside s c.args.row c.requires.stored c.requires.linked, same, c.requires.stored.groups_full)

pub returns-clause-stored : goal.returns-clause-stored
returns-clause-stored c = (tied (goal.at.returns-clause-stored c).After-tie (reads (goal.at.returns-clause-stored c).After-index-after)).holds

pub returns-clause-links : goal.returns-clause-links
returns-clause-links c = (tied (goal.at.returns-clause-links c).After-tie (reads (goal.at.returns-clause-links c).After-index-after)).links_are
