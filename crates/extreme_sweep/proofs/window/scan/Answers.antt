use Rattle.std.proofs.Common.{◌≡◌, ◌∙◌, ◌+◌, ◌∷◌, [], ◌++◌, sym, ap, take}
use Rattle.std.proofs.lemmas.List.{take_more}
use Rattle.extreme_sweep.specs.declared.window.SweepPoint.{SweepPoint}
use Rattle.extreme_sweep.specs.Windows.{least_inside}
use Rattle.extreme_sweep.proofs.PairLaws.{lesser}
use Rattle.extreme_sweep.proofs.Scanning.{least-push, least-reversed}
use Rattle.extreme_sweep.proofs.window.scan.Goals as goal

pub returns-then-is_reversed : goal.returns-then-is_reversed
returns-then-is_reversed c = sym (least-reversed c.args.window.now (sym c.is_reversed.ensures ∙ c.if-is_reversed.true) c.args.points.now)

pub loop-point-preserved : goal.loop-point-preserved
loop-point-preserved c =
    let window = c.args.window.now in let points = c.args.points.now in let i = c.loop-point.point-index in
    let more : take (i + 1) points ≡ take i points ++ c.point-item.result ∷ [] =
    take_more points i c.point-item.result c.loop-point-test.true ∙ ap (λ (p : SweepPoint). take i points ++ p ∷ []) (sym c.point-item.is) in
    c.lesser-least.ensures ∙ (λ k. lesser (c.loop-point.invariant k) (c.pair_of.ensures k))
    ∙ sym (ap (λ l. least_inside l window) more ∙ least-push window (take i points) c.point-item.result)
