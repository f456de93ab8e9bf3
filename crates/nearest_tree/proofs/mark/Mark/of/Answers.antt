-- Each other point is the next behind the first.
use Rattle.std.proofs.Common.{◌≡◌, ◌∙◌, ◌+◌, ◌-◌, ◌<◌, ◌∷◌, [], ◌++◌, length, get_or, take, drop, length-drop, sym, ap, subst, arith}
use Rattle.std.proofs.lemmas.List.{get_or-drop, take_all, take_more}
use Rattle.nearest_tree.specs.declared.point.NearPoint.{NearPoint}
use Rattle.nearest_tree.specs.Marks.{StandsFor}
use Rattle.nearest_tree.proofs.mark.Mark.of.Goals as goal

pub loop-point-preserved : goal.loop-point-preserved
loop-point-preserved c =
    let points = c.args.points.now in let i = c.loop-point.point-index in let point = c.point-item.result in
    let others : take (length points - 1) (drop 1 points) ≡ drop 1 points = take_all (length points - 1) (drop 1 points) (omega (arith, length-drop 1 points)) in
    let inside : i + 1 < length points = omega (arith, c.loop-point-test.true, ap length others, length-drop 1 points) in
    let next : 1 + i ≡ i + 1 = omega arith in
    let read : point ≡ get_or points (i + 1) point =
    c.point-item.is ∙ ap (λ l. get_or l i point) others ∙ get_or-drop 1 points i point ∙ ap (λ n. get_or points n point) next in
    let more : take (i + 1 + 1) points ≡ take (i + 1) points ++ point ∷ [] =
    take_more points (i + 1) point inside ∙ ap (λ (p : NearPoint). take (i + 1) points ++ p ∷ []) (sym read) in
    subst (StandsFor c.with-mark.result) (sym more) (c.with-mark.ensures (take (i + 1) points) c.loop-point.invariant)
