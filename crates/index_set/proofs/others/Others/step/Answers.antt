use Rattle.std.proofs.Common.{◌≡◌, ◌-◌, ◌++◌, ℕ, Option, None, ap, refl, sym, ◌∙◌}
use Rattle.index_set.specs.Aims.{rows_of}
use Rattle.index_set.specs.Others.{others_rest, rows_asked, rows_but}
use Rattle.index_set.proofs.Walks.{first_told, no_row, others_end, some_row, strip_spent, strip_taken}
use Rattle.index_set.proofs.others.Others.step.Goals as goal

pub groups-init : goal.groups-init
groups-init c = record { rest = refl; spent = strip_spent c.args.self.now.strip c.next-row.result c.next-row.new.self c.next-row.ensures.steps }

pub groups-preserved : goal.groups-preserved
groups-preserved c =
    let none : c.groups.row ≡ None = no_row c.groups.row c.groups-test.ensures in
    record {
      rest = c.turn-row.ensures.rest ∙ ap (λ (row : Option ℕ). rows_of row ++ others_rest c.groups.self) (sym none) ∙ c.groups.invariant.rest;
      spent = c.turn-row.ensures.spent;
    }

pub returns-else-self : goal.returns-else-self
returns-else-self c =
    let it = c.args.self.now in
    let none : c.groups.row ≡ None = no_row c.groups.row c.groups-test.ensures in
    first_told (others_rest it) (others_rest c.groups.self) c.groups.row
    (c.groups.invariant.rest ∙ strip_taken it.strip c.next-row.result c.next-row.new.self
    (rows_but it.own (rows_asked it.sorted.now it.asked) it.next (it.end - it.next)) c.next-row.ensures.steps)
    (λ h. others_end c.groups.self (c.groups.invariant.spent none) c.if-self.false)

pub returns-after-groups : goal.returns-after-groups
returns-after-groups c =
    let it = c.args.self.now in
    first_told (others_rest it) (others_rest c.groups.self) c.groups.row
    (c.groups.invariant.rest ∙ strip_taken it.strip c.next-row.result c.next-row.new.self
    (rows_but it.own (rows_asked it.sorted.now it.asked) it.next (it.end - it.next)) c.next-row.ensures.steps)
    (λ none. absurd (some_row c.groups.row c.groups-test.ensures none))
