-- The lanes hold what the column has, and are of its sort.
use Rattle.std.proofs.Common.{ap, arith, get_or, pos, subst, sym, ◌∙◌}
use Rattle.sgl_values.specs.declared.fault.Val.{Val}
use Rattle.sgl_values.specs.declared.fault.Val.TheVariants.{N}
use Rattle.sgl_lanes.specs.Lanes.{lane_of, Holds}
use Rattle.task_scratch.specs.Columns.{value_in}
use Rattle.task_scratch.specs.Scratch.{slots_in}
use Rattle.task_scratch.specs.Sorts.{is_number}
use Rattle.task_scratch.proofs.Columns.{slot_is, slot_past}
use Rattle.task_scratch.proofs.Sorts.{sort_numbers, sort_same}
use Rattle.task_scratch.proofs.slot_rows.SlotRows.lanes.Goals as goal

pub returns-then-at-len-clause-held : goal.returns-then-at-len-clause-held
returns-then-at-len-clause-held c k below inside =
    let P : Val → Type 0 = λ v. Holds c.lanes.result (lane_of c.lanes.new.out k) v in
    subst P (slot_is _ _ k c.args.slot _ c.self.view_is below (omega arith) c.index.ensures) (c.lanes.ensures.held k below inside)

pub returns-then-at-len-clause-known : goal.returns-then-at-len-clause-known
returns-then-at-len-clause-known c =
    c.lanes.ensures.known ∙ sort_same c.args.mask (value_in c.index.result.now) (λ k. get_or (slots_in c.args.self.now k) c.args.slot (N (pos 0)))
    (λ k below inside. slot_is _ _ k c.args.slot _ c.self.view_is below (omega arith) c.index.ensures)

pub returns-else-at-len-clause-held : goal.returns-else-at-len-clause-held
returns-else-at-len-clause-held c k below inside = sym (slot_past _ _ k c.args.slot c.self.view_is (omega arith)) ∙ ap N (sym (c.fill.ensures k below ∙ c.zero.ensures))

pub returns-else-at-len-clause-known : goal.returns-else-at-len-clause-known
returns-else-at-len-clause-known c =
    sort_numbers c.args.mask (λ k. get_or (slots_in c.args.self.now k) c.args.slot (N (pos 0)))
    (λ k below inside. ap is_number (sym (slot_past _ _ k c.args.slot c.self.view_is (omega arith))))
