use Rattle.std.proofs.Common.{◌≡◌, ◌∙◌, ◌+◌, ◌∷◌, [], ◌++◌, sym, ap, subst, take, rules}
use Rattle.std.proofs.lemmas.List.{take_more}
use Rattle.std.specs.Prelude.{Option, Some, None}
use Rattle.extreme_sweep.specs.declared.pair.Entry.{Entry}
use Rattle.extreme_sweep.specs.declared.node.Node.{Node}
use Rattle.extreme_sweep.specs.Tree.{StandsFor}
use Rattle.extreme_sweep.proofs.Blocks.{stands-empty, stands-push}
use Rattle.extreme_sweep.proofs.tree.node_of_places.Goals as goal
use Rattle.extreme_sweep.proofs.tree.node_of_places.Goals.{in-Some, in_default}

pub loop-place-preserved : goal.loop-place-preserved
loop-place-preserved c =
    let places = c.args.places.now in let i = c.loop-place.place-index in let place = c.place-item.result in
    let more : take (i + 1) places ≡ take i places ++ place ∷ [] =
    take_more places i place c.loop-place-test.true ∙ ap (λ (p : Option Entry). take i places ++ p ∷ []) (sym c.place-item.is) in
    subst (StandsFor c.match-place.node) (sym more) (elim c.match-place.branch [
      | in-Some w ↦ subst (λ (n : Node). StandsFor n (take i places ++ place ∷ [])) (sym w.node-is)
          (subst (λ (p : Option Entry). StandsFor w.joined-node.result (take i places ++ p ∷ [])) (sym w.in-Some.is)
          (stands-push c.loop-place.node w.joined-node.result (take i places) (Some w.in-Some.entry) c.loop-place.invariant w.joined-node.ensures.sound w.joined-node.ensures.joins))
      | in_default w ↦
          let none : place ≡ None = search rules in
          subst (λ (n : Node). StandsFor n (take i places ++ place ∷ [])) (sym w.node-is)
          (subst (λ (p : Option Entry). StandsFor c.loop-place.node (take i places ++ p ∷ [])) (sym none) (stands-empty c.loop-place.node (take i places) c.loop-place.invariant))
    ])
