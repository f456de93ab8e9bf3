-- Both edges of a box are put behind the others, as there is room.
use Rattle.std.proofs.Common.{◌≡◌, ◌∙◌, ◌+◌, ◌*◌, ◌∷◌, [], ◌++◌, length, take, sym, ap, subst, arith, length-take-le}
use Rattle.std.specs.Prelude.{All}
use Rattle.std.proofs.lemmas.List.{take_more, length_push}
use Rattle.std.proofs.lemmas.List.Elements.{All-push}
use Rattle.area_effects.specs.declared.area_box.AreaBox.{AreaBox}
use Rattle.area_effects.specs.Edges.{IsEdge, edges_of}
use Rattle.area_effects.proofs.Covering.{edges_of-push, length-edges_of, pushed}
use Rattle.area_effects.proofs.sweep.put_in_order.Goals as goal

pub loop-area-preserved : goal.loop-area-preserved
loop-area-preserved c =
    let xs = c.args.xs.now.numbers.items in let ys = c.args.ys.now.numbers.items in let boxes = c.args.boxes.now in
    let i = c.loop-area.area-index in let area = c.area-item.result in let old = c.loop-area.invariant in
    let one = c.both_of.result.0 in let other = c.both_of.result.1 in
    let many : length c.loop-area.edges.items ≡ 2 * i = omega (arith, ap length old.edges, length-edges_of xs ys (take i boxes), length-take-le i boxes (omega arith)) in
    let room = c.requires.room in
    let first : c.push.new.self.items ≡ c.loop-area.edges.items ++ one ∷ [] =
    pushed _ _ _ one (c.push.ensures.succeeds (omega (arith, many, old.room, room, c.clear.ensures.capacity, c.loop-area.edges.ok))) c.push.ensures.items in
    let second : c.push-in-loop-area.new.self.items ≡ c.push.new.self.items ++ other ∷ [] =
    pushed _ _ _ other (c.push-in-loop-area.ensures.succeeds
    (omega (arith, many, old.room, room, c.clear.ensures.capacity, c.push.ensures.capacity, ap length first, length_push c.loop-area.edges.items one, c.push.new.self.ok))) c.push-in-loop-area.ensures.items in
    let more : take (i + 1) boxes ≡ take i boxes ++ area ∷ [] = take_more boxes i area c.loop-area-test.true ∙ ap (λ (b : AreaBox). take i boxes ++ b ∷ []) (sym c.area-item.is) in
    record {
      edges = second ∙ (λ j. (first ∙ (λ k. old.edges k ++ c.both_of.ensures.opening k ∷ [])) j ++ c.both_of.ensures.closing j ∷ [])
          ∙ sym (ap (edges_of xs ys) more ∙ edges_of-push xs ys (take i boxes) area);
      each = subst (All IsEdge) (sym second) (All-push IsEdge c.push.new.self.items other
          (subst (All IsEdge) (sym first) (All-push IsEdge c.loop-area.edges.items one old.each c.both_of.ensures.opens)) c.both_of.ensures.closes);
      room = omega (arith, old.room, c.push.ensures.capacity, c.push-in-loop-area.ensures.capacity);
    }
