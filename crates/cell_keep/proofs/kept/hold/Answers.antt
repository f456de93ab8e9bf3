use Rattle.std.proofs.Common.{◌≡◌, ◌∙◌, ◌++◌, List, ℕ, Option, ap, arith, length, subst, sym}
use Rattle.std.specs.Prelude.{Contains, vec_capacity}
use Rattle.std.specs.List.{range_with_len}
use Rattle.std.specs.List.Sorted.{IsPermutation}
use Rattle.std.proofs.lemmas.List.{length-append}
use Rattle.cell_keep.specs.Kept.{KeysRise}
use Rattle.cell_keep.specs.Rows.{rows_in}
use Rattle.cell_keep.proofs.Sharing.{gone_below, order_apart, order_below, parted_length, shared_length, shared_still, taken_over}
use Rattle.cell_keep.proofs.kept.hold.Goals as goal
use Rattle.cell_keep.proofs.kept.hold.Goals.{After-fill, After-run}

-- the rows of the points before are those that stay and those that are gone
parted : (c : After-run) → IsPermutation c.args.held.now.order.items (rows_in c.run.new.self.taken.items ++ c.run.new.self.gone.items)
parted c = subst (λ (l : List ℕ). IsPermutation l (rows_in c.run.new.self.taken.items ++ c.run.new.self.gone.items)) c.as_slice.ensures.value c.run.ensures.shared

-- and once rows are filled in, all rows are shared out again
shared : (c : After-fill) → IsPermutation c.args.held.now.order.items (rows_in c.run.new.self.taken.items ++ c.run.new.self.gone.items)
    → IsPermutation (c.fill.new.order.items ++ c.fill.new.free.items) (range_with_len 0 65536)
shared c parts =
    let free = c.args.free.now.items in
    let taken = rows_in c.run.new.self.taken.items in
    let gone = c.run.new.self.gone.items in
    let now = c.fill.new.order.items ++ c.fill.new.free.items in
    let told : rows_in c.as_slice-4.result.now ≡ taken = ap rows_in c.as_slice-4.ensures.value in
    let given : c.give_back.new.free.items ≡ free ++ gone = c.give_back.ensures.free ∙ ap (λ (l : List ℕ). free ++ l) c.as_slice-3.ensures.value in
    let filled : IsPermutation (taken ++ (free ++ gone)) now =
    subst (λ (l : List ℕ). IsPermutation (taken ++ l) now) given (subst (λ (l : List ℕ). IsPermutation (l ++ c.give_back.new.free.items) now) told c.fill.ensures.shared) in
    shared_still c.args.held.now.order.items free c.requires.kept.shared taken gone parts c.fill.new.order.items c.fill.new.free.items filled

pub give_back-requires-clause-rows : goal.give_back-requires-clause-rows
give_back-requires-clause-rows c = λ row there.
    let kept = c.requires.kept in
    let below = gone_below c.args.held.now.order.items c.args.free.now.items kept.shared (rows_in c.run.new.self.taken.items) c.run.new.self.gone.items (parted (goal.at.give_back-requires-clause-rows c).After-run) row in
    omega (arith, kept.are_placed.rows, below (subst (λ (l : List ℕ). Contains l row) c.as_slice-3.ensures.value there))

pub give_back-requires-clause-room : goal.give_back-requires-clause-room
give_back-requires-clause-room c =
    let kept = c.requires.kept in
    let order = c.args.held.now.order.items in
    let free = c.args.free.now.items in
    let parts = parted_length order free kept.shared (rows_in c.run.new.self.taken.items) c.run.new.self.gone.items (parted (goal.at.give_back-requires-clause-room c).After-run) in
    omega (arith, kept.room_free, shared_length order free kept.shared, parts, ap length c.as_slice-3.ensures.value)

pub fill-requires-clause-all : goal.fill-requires-clause-all
fill-requires-clause-all c =
    let order = c.args.held.now.order.items in
    let free = c.args.free.now.items in
    let held = c.requires.kept.shared in
    omega (
      arith,
      ap (λ (l : List (Option ℕ)). length (rows_in l)) c.as_slice-4.ensures.value,
      ap length c.give_back.ensures.free,
      length-append free c.as_slice-3.result.now,
      ap length c.as_slice-3.ensures.value,
      shared_length order free held,
      parted_length order free held (rows_in c.run.new.self.taken.items) c.run.new.self.gone.items (parted (goal.at.fill-requires-clause-all c).After-run),
    )

pub put_all-requires-clause-inside : goal.put_all-requires-clause-inside
put_all-requires-clause-inside c =
    let at = goal.at.put_all-requires-clause-inside c in order_below c.fill.new.order.items c.fill.new.free.items (shared at.After-fill (parted at.After-run))

pub put_all-requires-clause-once : goal.put_all-requires-clause-once
put_all-requires-clause-once c =
    let at = goal.at.put_all-requires-clause-once c in order_apart c.fill.new.order.items c.fill.new.free.items (shared at.After-fill (parted at.After-run))

pub put_all-requires-clause-within : goal.put_all-requires-clause-within
put_all-requires-clause-within c = λ row linked.
    let kept = c.requires.kept in
    let out = c.give_back.ensures.out row linked in
    let stays = taken_over c.args.held.now.order.items c.args.free.now.items kept.shared (rows_in c.run.new.self.taken.items) c.run.new.self.gone.items (parted (goal.at.put_all-requires-clause-within c).After-run) row
    (kept.are_placed.within row out.0) (λ there. out.1 (subst (λ (l : List ℕ). Contains l row) (sym c.as_slice-3.ensures.value) there)) in
    c.fill.ensures.holds row (subst (λ (l : List (Option ℕ)). Contains (rows_in l) row) (sym c.as_slice-4.ensures.value) stays)

pub returns-clause-kept : goal.returns-clause-kept
returns-clause-kept c =
    let at = goal.at.returns-clause-kept c in
    let items : c.put_all.new.held.order.items ≡ c.fill.new.order.items = cc in
    let same_room : vec_capacity c.put_all.new.held.order ≡ vec_capacity c.fill.new.order = cc in
    record {
      are_placed = c.put_all.ensures.placed;
      shared = subst (λ (l : List ℕ). IsPermutation (l ++ c.fill.new.free.items) (range_with_len 0 65536)) (sym items) (shared at.After-fill (parted at.After-run));
      rising = subst KeysRise (sym c.put_all.ensures.points) c.requires.rising;
      room = omega (arith, same_room, c.fill.ensures.room);
      room_keys = c.put_all.ensures.room;
      room_free = omega (arith, c.requires.kept.room_free, c.give_back.ensures.capacity, c.fill.ensures.capacity);
    }
