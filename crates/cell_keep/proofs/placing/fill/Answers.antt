use Rattle.std.proofs.Common.{◌≡◌, ◌∙◌, ◌+◌, ◌∷◌, ◌++◌, List, [], ℕ, Option, None, ap, arith, drop, get_or, length, subst, sym}
use Rattle.std.specs.Prelude.{Contains, option_to_list}
use Rattle.std.specs.List.Sorted.{IsPermutation}
use Rattle.std.proofs.lemmas.List.{append-nil, drop_all, drop_more, length-append}
use Rattle.cell_keep.specs.Rows.{rows_in}
use Rattle.cell_keep.proofs.Sharing.{filled_holds, filled_one, free_left}
use Rattle.cell_keep.proofs.placing.fill.Goals as goal

pub row_for-row-requires : goal.row_for-row-requires
row_for-row-requires c =
    let taken = c.args.taken.now in
    let whole = rows_in taken ++ c.args.free.now.items in
    free_left taken c.loop-row.row-index whole c.loop-row.order.items c.loop-row.free.items c.loop-row-test.true c.requires.few
    (omega (arith, length-append (rows_in taken) c.args.free.now.items, c.requires.all)) c.loop-row.invariant.shared c.loop-row.invariant.each

pub loop-row-preserved : goal.loop-row-preserved
loop-row-preserved c =
    let taken = c.args.taken.now in
    let i = c.loop-row.row-index in
    let o = get_or taken i None in
    let whole = rows_in taken ++ c.args.free.now.items in
    let order = c.loop-row.order.items in
    let free = c.loop-row.free.items in
    let row = c.row_for-row.result in
    let left = c.row_for-row.new.free.items in
    let rest = rows_in (drop (i + 1) taken) in
    let was = c.loop-row.invariant in
    let more : rows_in (drop i taken) ≡ option_to_list o ++ rest = ap rows_in (drop_more taken i None c.loop-row-test.true) in
    let pushed : c.push_reserved.new.self.items ≡ order ++ row ∷ [] = c.push_reserved.ensures.items in
    record {
      shared = subst (λ (l : List ℕ). IsPermutation whole ((l ++ rest) ++ left)) (sym pushed)
          (filled_one whole order rest free left o row (subst (λ (l : List ℕ). IsPermutation whole ((order ++ l) ++ free)) more was.shared) c.row_for-row.ensures.shared);
      holds = λ x there. subst (λ (l : List ℕ). Contains (l ++ rest) x) (sym pushed)
          (filled_holds order rest o row x c.row_for-row.ensures.taken (subst (λ (l : List ℕ). Contains (order ++ l) x) more (was.holds x there)));
      each = omega (arith, ap length pushed, length-append order (row ∷ []), was.each);
      room = omega (arith, c.push_reserved.ensures.capacity, was.room);
      capacity = c.row_for-row.ensures.capacity ∙ was.capacity;
    }

pub returns-clause-holds : goal.returns-clause-holds
returns-clause-holds c = λ row there.
    let taken = c.args.taken.now in
    let none : c.loop-row.order.items ++ rows_in (drop c.loop-row.row-index taken) ≡ c.loop-row.order.items =
    ap (λ (l : List (Option ℕ)). c.loop-row.order.items ++ rows_in l) (drop_all c.loop-row.row-index taken (omega (arith, c.loop-row-test.false))) ∙ append-nil c.loop-row.order.items in
    subst (λ (l : List ℕ). Contains l row) none (c.loop-row.invariant.holds row there)
