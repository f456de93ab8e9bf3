use Rattle.std.proofs.Common.{◌≡◌, ◌∙◌, ◌+◌, ◌∷◌, [], ◌++◌, sym, ap, take}
use Rattle.std.proofs.lemmas.List.{take_more}
use Rattle.std.specs.Prelude.{Option}
use Rattle.extreme_sweep.specs.declared.pair.Entry.{Entry}
use Rattle.extreme_sweep.specs.Nodes.{least_below}
use Rattle.extreme_sweep.proofs.Blocks.{least_at, least-push}
use Rattle.extreme_sweep.proofs.PairLaws.{lesser}
use Rattle.extreme_sweep.proofs.tree.least_of_places.Goals as goal

pub loop-place-preserved : goal.loop-place-preserved
loop-place-preserved c =
    let places = c.args.places.now in let other = c.args.other_than in let i = c.loop-place.place-index in let place = c.place-item.result in
    let more : take (i + 1) places ≡ take i places ++ place ∷ [] =
    take_more places i place c.loop-place-test.true ∙ ap (λ (p : Option Entry). take i places ++ p ∷ []) (sym c.place-item.is) in
    c.lesser-least.ensures ∙ (λ k. lesser (c.loop-place.invariant k) ((c.least.ensures ∙ ap (least_below other) c.leaf.ensures) k))
    ∙ sym (ap (least_at other) more ∙ least-push other (take i places) place)
