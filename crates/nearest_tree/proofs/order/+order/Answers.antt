-- Each half is put into order in its place.
use Rattle.std.proofs.Common.{◌+◌, ◌/◌, ◌++◌, length, take, drop, subst}
use Rattle.std.proofs.lemmas.List.Sorted.{IsPermutation-append, IsPermutation-refl, IsPermutation-put_mid, IsPermutation-trans}
use Rattle.std.proofs.lemmas.List.{take-append-drop}
use Rattle.std.specs.List.Sorted.{IsPermutation}
use Rattle.nearest_tree.proofs.order.+order.Goals as goal

pub returns : goal.returns
returns t c =
    let points = c.args.points.now in let sorted = c.sort.new.points in let middle = length sorted / 2 in
    let before : IsPermutation (take middle sorted) c.order.new.points = c.order.ensures in
    let first : IsPermutation sorted (c.order.new.points ++ drop middle sorted) =
    subst (λ l. IsPermutation l (c.order.new.points ++ drop middle sorted)) (take-append-drop middle sorted)
    (IsPermutation-append (take middle sorted) c.order.new.points (drop middle sorted) (drop middle sorted) before (IsPermutation-refl (drop middle sorted))) in
    IsPermutation-trans points sorted _ c.sort.ensures
    (IsPermutation-trans sorted (c.order.new.points ++ drop middle sorted) _ first
    (IsPermutation-put_mid (middle + 1) _ (c.order.new.points ++ drop middle sorted) c.order-2.new.points c.order-2.ensures))
